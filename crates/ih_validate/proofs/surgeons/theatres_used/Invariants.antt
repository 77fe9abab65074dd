use Rattle.std.proofs.Common.{◌≡◌, ℕ, length, map, take}
use Rattle.std.specs.List.{list_any}
use Rattle.ih_plan.specs.Costs.{is_number, theatre_of}
use Rattle.ih_tables.specs.Marks.{is_marked}
use Rattle.ih_validate.proofs.surgeons.theatres_used.Given as goal

abbrev pub invariant-loop-p : goal.invariant-loop-p
invariant-loop-p l = record {
  len : length l.used ≡ 64;
  each : (t : ℕ) → is_marked l.used t ≡ list_any (λ o. is_number o t) (map (theatre_of l.plan) (take l.p-index l.patients));
}
