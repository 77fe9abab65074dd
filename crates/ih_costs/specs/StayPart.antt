-- What a patient's stay costs by itself.
use Rattle.std.specs.Prelude.{◌&&◌, not, is_none, [], ◌∷◌, Option}
use Rattle.ih_tables.specs.declared.drafts.Patient.{Patient}
use Rattle.ih_plan.specs.declared.moves.Placement.{Placement}
use Rattle.ih_plan.specs.Sums.{bit}
use Rattle.ih_plan.specs.Costs.{in_bad_room, outside_window, delay}
use Rattle.ih_plan.specs.BillOf.{Counts}

-- what a patient's stay, or its absence, costs by itself
abbrev pub stay_part : Patient → Option Placement → Counts
stay_part a stay = record {
  v = 0 ∷ bit (in_bad_room a stay) ∷ 0 ∷ 0 ∷ bit (a.mandatory && is_none stay) ∷ bit (outside_window a stay)
      ∷ 0 ∷ 0 ∷ 0 ∷ [];
  s = 0 ∷ 0 ∷ 0 ∷ 0 ∷ 0 ∷ 0 ∷ delay a stay ∷ bit (not a.mandatory && is_none stay) ∷ [];
}
