use Rattle.std.proofs.Common.{◌+◌, ◌<◌, arith, subst, sym}
use Rattle.ih_tables.specs.Sizes.{patient_count}
use Rattle.ih_tables.specs.declared.ids.PatientNo.{PatientNo}
use Rattle.ih_plan.specs.declared.moves.Write.TheVariants.{SetStay}
use Rattle.ih_plan.specs.Timetable.{IsPlanOf, Timetable}
use Rattle.ih_plan.proofs.PlanRanges.{put-plan, write-inside}
use Rattle.ih_carry.specs.Handovers.{HasStays, handover_of}
use Rattle.ih_carry.proofs.CarrySteps.{more-stays, no-stays, stay-write}
use Rattle.ih_carry.proofs.carrying.carry_stays.Goals as goal

pub loop-p-init : goal.loop-p-init
loop-p-init c = record { fits = c.requires; stays = no-stays (handover_of c.args.handover.now) c.args.plan.now }

pub put-requires : goal.put-requires
put-requires c =
    let h = handover_of c.args.handover.now in
    let p : PatientNo = record { 0 = c.loop-p.p } in
    let known : c.loop-p.p < patient_count h.next = omega arith in
    write-inside h.next c.loop-p.plan (SetStay p c.kept_stay-stay.result) c.loop-p.invariant.fits
    (stay-write h c.loop-p.plan p c.kept_stay-stay.result known c.kept_stay-stay.ensures.inside)

pub loop-p-preserved : goal.loop-p-preserved
loop-p-preserved c =
    let h = handover_of c.args.handover.now in
    let p : PatientNo = record { 0 = c.loop-p.p } in
    let known : c.loop-p.p < patient_count h.next = omega arith in
    let write = stay-write h c.loop-p.plan p c.kept_stay-stay.result known c.kept_stay-stay.ensures.inside in
    record {
      fits = subst (IsPlanOf h.next) (sym c.put.ensures) (put-plan h.next c.loop-p.plan (SetStay p c.kept_stay-stay.result) c.loop-p.invariant.fits write);
      stays = subst (λ (Q : Timetable). HasStays h (c.loop-p.p + 1) Q) (sym c.put.ensures)
          (more-stays h c.loop-p.plan p c.kept_stay-stay.result c.loop-p.invariant.fits known
          c.kept_stay-stay.ensures.value c.loop-p.invariant.stays);
    }
