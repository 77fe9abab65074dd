-- The numbers of a solution file are whole.
use Rattle.std.proofs.Common.{◌≡◌, ℕ, refl, false, List, [], ◌∷◌, map}
use Rattle.std.specs.Prelude.{Option, Some, None}
use Rattle.std.specs.List.{range_with_len}
use Rattle.serde_json.specs.Data.{Data, string}
use Rattle.serde_json.specs.View.{items_of}
use Rattle.serde_json.specs.Written.{has_float, items_have_float}
use Rattle.ih_tables.specs.declared.drafts.Draft.{Draft}
use Rattle.ih_tables.specs.Sizes.{patient_count, nurse_count}
use Rattle.ih_plan.specs.declared.moves.Placement.{Placement}
use Rattle.ih_plan.specs.Timetable.{Timetable, stay_of}
use Rattle.ih_solution.specs.Solution.{room_id, rooms_of, rooms_data, shifts_with_rooms, assignment_data, nurse_data, stay_data, solution_data}

-- what holds of each value of a list
pub no_floats : (f : ℕ → Data) (xs : List ℕ) → ((x : ℕ) → has_float (f x) ≡ false) → items_have_float (items_of (map f xs)) ≡ false
no_floats f [] h = refl
no_floats f (x ∷ xs) h = rw (h x) (no_floats f xs h)

stay-float : (I : Draft) (p : ℕ) (s : Option Placement) → has_float (stay_data I p s) ≡ false
stay-float I p None = refl
stay-float I p (Some at) = refl

assignment-float : (I : Draft) (P : Timetable) (n k : ℕ) → has_float (assignment_data I k (rooms_data I P n k)) ≡ false
assignment-float I P n k = rw (no_floats (λ r. string (room_id I r)) (rooms_of I P n k) (λ r. refl)) refl

nurse-float : (I : Draft) (P : Timetable) (n : ℕ) → has_float (nurse_data I P n) ≡ false
nurse-float I P n = rw (no_floats (λ k. assignment_data I k (rooms_data I P n k)) (shifts_with_rooms I P n) (assignment-float I P n)) refl

pub solution-float : (I : Draft) (P : Timetable) → has_float (solution_data I P) ≡ false
unfolding solution_data
solution-float I P = rw (
  no_floats (nurse_data I P) (range_with_len 0 (nurse_count I)) (nurse-float I P),
  no_floats (λ p. stay_data I p (stay_of P p))
      (range_with_len 0 (patient_count I)) (λ p. stay-float I p (stay_of P p)),
) refl

pub ruleset whole_numbers = solution-float
