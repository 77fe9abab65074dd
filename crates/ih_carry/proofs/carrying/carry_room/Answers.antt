use Rattle.std.proofs.Common.{◌≡◌, ◌∙◌, ◌+◌, ◌<◌, ℕ, ap, arith, refl, subst, sym}
use Rattle.ih_tables.specs.Sizes.{shift_count}
use Rattle.ih_tables.specs.declared.ids.Shift.{Shift}
use Rattle.ih_plan.specs.declared.moves.Write.TheVariants.{SetCare}
use Rattle.ih_plan.specs.Timetable.{IsPlanOf, Timetable}
use Rattle.ih_plan.proofs.PlanRanges.{put-plan, write-inside}
use Rattle.ih_carry.specs.Handovers.{HasNurses, handover_of}
use Rattle.ih_carry.proofs.CarrySteps.{HasOwn, care-write, more-nurses, more-own, no-own, same-nurses}
use Rattle.ih_carry.proofs.carrying.carry_room.Goals as goal

pub loop-k-init : goal.loop-k-init
loop-k-init c = record {
  fits = c.requires.fits;
  own = no-own (handover_of c.args.handover.now) c.args.plan.now c.args.room.0;
  nurses = c.requires.nurses;
  stays = refl;
}

pub put-requires : goal.put-requires
put-requires c =
    let h = handover_of c.args.handover.now in
    let k : Shift = record { 0 = c.loop-k.k } in
    let shift : c.loop-k.k < shift_count h.next = omega arith in
    write-inside h.next c.loop-k.plan (SetCare c.args.room k c.kept_nurse-nurse.result) c.loop-k.invariant.fits
    (care-write h c.loop-k.plan c.args.room k c.kept_nurse-nurse.result c.requires.room shift
    c.kept_nurse-nurse.ensures.inside)

pub loop-k-preserved : goal.loop-k-preserved
loop-k-preserved c =
    let h = handover_of c.args.handover.now in
    let before = c.loop-k.invariant in
    let k : Shift = record { 0 = c.loop-k.k } in
    let shift : c.loop-k.k < shift_count h.next = omega arith in
    let write = care-write h c.loop-k.plan c.args.room k c.kept_nurse-nurse.result c.requires.room shift
    c.kept_nurse-nurse.ensures.inside in
    record {
      fits = subst (IsPlanOf h.next) (sym c.put.ensures) (put-plan h.next c.loop-k.plan (SetCare c.args.room k c.kept_nurse-nurse.result) before.fits write);
      own = subst (λ (Q : Timetable). HasOwn h c.args.room.0 (c.loop-k.k + 1) Q) (sym c.put.ensures)
          (more-own h c.loop-k.plan c.args.room k c.kept_nurse-nurse.result before.fits c.requires.room shift
          c.kept_nurse-nurse.ensures.value before.own);
      nurses = subst (λ (Q : Timetable). HasNurses h c.args.room.0 Q) (sym c.put.ensures)
          (same-nurses h c.loop-k.plan c.args.room k c.kept_nurse-nurse.result before.fits c.requires.room shift
          before.nurses);
      stays = ap (λ (Q : Timetable). Q.stays) c.put.ensures ∙ before.stays;
    }

pub returns : goal.returns
returns c =
    let h = handover_of c.args.handover.now in
    let all : c.loop-k.k ≡ shift_count h.next = omega arith in
    record {
      fits = c.loop-k.invariant.fits;
      nurses = more-nurses h c.loop-k.plan c.args.room.0 c.loop-k.invariant.nurses
          (subst (λ (n : ℕ). HasOwn h c.args.room.0 n c.loop-k.plan) all c.loop-k.invariant.own);
      stays = c.loop-k.invariant.stays;
    }
