use Rattle.std.proofs.Common.{◌≡◌, ℕ, length, map}
use Rattle.std.specs.List.{list_any, range_with_len}
use Rattle.ih_plan.specs.Costs.{is_number}
use Rattle.ih_plan.specs.Timetable.{care_of}
use Rattle.ih_tables.specs.Marks.{is_marked}
use Rattle.ih_validate.proofs.nurses.seen_in.Given as goal

abbrev pub invariant-loop-j : goal.invariant-loop-j
invariant-loop-j l = record {
  len : length l.seen ≡ 512;
  each : (n : ℕ) → is_marked l.seen n ≡ list_any (λ o. is_number o n) (map (care_of l.plan l.room.0) (range_with_len l.from l.j));
}
