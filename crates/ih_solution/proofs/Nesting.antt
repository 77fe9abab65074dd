-- A solution file nests six deep: the file, its nurses, a nurse, the assignments, one of them, its rooms.
use Rattle.std.proofs.Common.{ℕ, ◌≤◌, arith, List, [], ◌∷◌, map, Option, Some, None}
use Rattle.std.specs.List.{range_with_len}
use Rattle.serde_json.specs.Data.{Data, depth, items_depth, string}
use Rattle.serde_json.specs.View.{items_of}
use Rattle.ih_tables.specs.declared.drafts.Draft.{Draft}
use Rattle.ih_tables.specs.Sizes.{patient_count, nurse_count}
use Rattle.ih_plan.specs.declared.moves.Placement.{Placement}
use Rattle.ih_plan.specs.Timetable.{Timetable, stay_of}
use Rattle.ih_solution.specs.Solution.{room_id, rooms_of, rooms_data, shifts_with_rooms, assignment_data, nurse_data, stay_data, solution_data}

pub nested : (n : ℕ) (f : ℕ → Data) (xs : List ℕ) → ((x : ℕ) → depth (f x) ≤ n) → items_depth (items_of (map f xs)) ≤ n
nested n f [] h = omega arith
nested n f (x ∷ xs) h = omega (arith, h x, nested n f xs h)

stay-depth : (I : Draft) (p : ℕ) (s : Option Placement) → depth (stay_data I p s) ≤ 1
stay-depth I p None = omega arith
stay-depth I p (Some at) = omega arith

assignment-depth : (I : Draft) (P : Timetable) (n k : ℕ) → depth (assignment_data I k (rooms_data I P n k)) ≤ 2
assignment-depth I P n k =
    let rooms = nested 0 (λ r. string (room_id I r)) (rooms_of I P n k) (λ r. omega arith) in
    omega (arith, rooms)

nurse-depth : (I : Draft) (P : Timetable) (n : ℕ) → depth (nurse_data I P n) ≤ 4
nurse-depth I P n =
    let given = nested 2 (λ k. assignment_data I k (rooms_data I P n k)) (shifts_with_rooms I P n) (assignment-depth I P n) in
    omega (arith, given)

pub solution-depth : (I : Draft) (P : Timetable) → depth (solution_data I P) ≤ 6
unfolding solution_data
solution-depth I P =
    let nurses = nested 4 (nurse_data I P) (range_with_len 0 (nurse_count I)) (nurse-depth I P) in
    let patients = nested 1 (λ p. stay_data I p (stay_of P p)) (range_with_len 0 (patient_count I)) (λ p. stay-depth I p (stay_of P p)) in
    omega (arith, nurses, patients)
