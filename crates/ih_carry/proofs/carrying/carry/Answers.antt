use Rattle.std.proofs.Common.{subst, sym}
use Rattle.ih_tables.specs.Sizes.{patient_count}
use Rattle.ih_plan.specs.Timetable.{IsPlanOf}
use Rattle.ih_plan.proofs.PlanRanges.{empty-plan}
use Rattle.ih_carry.specs.Handovers.{handover_of}
use Rattle.ih_carry.proofs.CarrySteps.{no-nurses, same-stays}
use Rattle.ih_carry.proofs.carrying.carry.Goals as goal

pub carry_stays-requires : goal.carry_stays-requires
carry_stays-requires c =
    let I = (handover_of c.args.handover.now).next in
    subst (IsPlanOf I) (sym c.in_ok-plan.ensures) (empty-plan I)

pub loop-r-init : goal.loop-r-init
loop-r-init c = record {
  fits = c.carry_stays.ensures.fits;
  stays = c.carry_stays.ensures.stays;
  nurses = no-nurses (handover_of c.args.handover.now) c.carry_stays.new.plan;
}

pub loop-r-preserved : goal.loop-r-preserved
loop-r-preserved c =
    let h = handover_of c.args.handover.now in
    record {
      fits = c.carry_room.ensures.fits;
      stays = same-stays h c.loop-r.plan (patient_count h.next) c.carry_room.new.plan c.carry_room.ensures.stays c.loop-r.invariant.stays;
      nurses = c.carry_room.ensures.nurses;
    }
