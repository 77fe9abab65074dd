use Rattle.std.proofs.Common.{◌+◌, ◌*◌, ◌<◌, ◌∙◌, arith, ap, take}
use Rattle.ih_tables.specs.declared.ids.Shift.{Shift}
use Rattle.ih_tables.specs.Sizes.{shift_count}
use Rattle.ih_plan.specs.declared.moves.Write.TheVariants.{SetCare}
use Rattle.ih_plan.specs.Timetable.{Timetable}
use Rattle.ih_plan.specs.Writes.{put}
use Rattle.ih_costs.specs.CellLedgers.{timetable_of}
use Rattle.ih_costs.proofs.CopyLemmas.{care-copied, care-write}
use Rattle.ih_costs.proofs.StandLemmas.{kept, plan-fits, stands-own}
use Rattle.ih_costs.proofs.copies.copy_room.Goals as goal

pub put-requires-clause-write : goal.put-requires-clause-write
put-requires-clause-write c =
    let I = c.args.inst.now.draft in
    let below : c.loop-k.k < shift_count I = omega (arith, c.loop-k-test.true, c.shifts-k-end.ensures) in
    rw c.care.ensures (care-write I c.args.plan.now c.args.room (record { 0 = c.loop-k.k }) c.requires.plan c.requires.room below)

pub loop-k-preserved : goal.loop-k-preserved
loop-k-preserved c =
    let I = c.args.inst.now.draft in
    let P = timetable_of c.loop-k.ledgers in
    let Q = c.args.plan.now in
    let k : Shift = record { 0 = c.loop-k.k } in
    let below : c.loop-k.k < shift_count I = omega (arith, c.loop-k-test.true, c.shifts-k-end.ensures) in
    let made = kept I (put (SetCare c.args.room k c.care.result) P) c.put.new.self c.put.ensures ∙ ap (λ n. put (SetCare c.args.room k n) P) c.care.ensures in
    record {
      stands = stands-own I (put (SetCare c.args.room k c.care.result) P) c.put.new.self c.put.ensures;
      stays = ap (λ (T : Timetable). T.stays) made ∙ c.loop-k.invariant.stays;
      copied = ap (λ (T : Timetable). take (shift_count I * c.args.room.0 + (c.loop-k.k + 1)) T.cares) made
          ∙ care-copied I P Q (plan-fits I P c.loop-k.ledgers c.loop-k.invariant.stands) c.requires.plan c.args.room k c.requires.room below c.loop-k.invariant.copied;
    }
