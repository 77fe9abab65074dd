-- A generated instance nests five deep: the file, its nurses, a nurse, the worked shifts, one of them.
use Rattle.std.proofs.Common.{ℕ, ◌+◌, ◌*◌, ◌≤◌, arith, List, Option, Some, None}
use Rattle.std.specs.List.{range_with_len}
use Rattle.serde_json.specs.Data.{Data, depth, items_depth, object}
use Rattle.serde_json.specs.View.{items_of}
use Rattle.ih_plan.specs.Draws.{state_after}
use Rattle.ih_plan.specs.Sums.{which_below}
use Rattle.ih_solution.specs.Solution.{number_data}
use Rattle.ih_solution.proofs.Nesting.{nested}
use Rattle.ih_gen.specs.declared.patients.PatientPicks.{PatientPicks}
use Rattle.ih_gen.specs.declared.persons.PersonPicks.{PersonPicks}
use Rattle.ih_gen.specs.Words.{stream_of, pick, begins, in_a_row}
use Rattle.ih_gen.specs.Generated.{works, worked_data, room_data, room_words, nurse_data, nurse_words, person_picks, occupant_members, occupant_data, occupant_words, skills, workloads, patient_picks, patient_members, patient_data, patient_words, due_day, each_day, surgeon_data, theatre_data, numbered, generated_data, nurse_stream, occupant_stream, patient_stream}

-- ---- persons

skills-depth : (s : List ℕ) (shifts : ℕ) → items_depth (items_of (skills s shifts)) ≤ 0
skills-depth s shifts = nested 0 (λ k. number_data (pick s (2 * k + 1) 3)) (range_with_len 0 shifts) (λ k. omega arith)

workloads-depth : (s : List ℕ) (shifts : ℕ) → items_depth (items_of (workloads s shifts)) ≤ 0
workloads-depth s shifts = nested 0 (λ k. number_data (1 + pick s (2 * k) 3)) (range_with_len 0 shifts) (λ k. omega arith)

members-depth : (n : ℕ) (a : PersonPicks) (skills workloads : List Data) → items_depth (items_of skills) ≤ 0 → items_depth (items_of workloads) ≤ 0
    → depth (object (occupant_members n a skills workloads)) ≤ 2
members-depth n a skills workloads flat even = omega arith

occupant-depth : (n : ℕ) (s : List ℕ) → depth (occupant_data n s) ≤ 2
occupant-depth n s =
    let shifts = 3 * (person_picks s 5).length_of_stay in
    members-depth n (person_picks s 5) (skills (state_after 3 s) shifts) (workloads (state_after 3 s) shifts) (skills-depth (state_after 3 s) shifts) (workloads-depth (state_after 3 s) shifts)

due-depth : (p : ℕ) (a : PatientPicks) (due : Option ℕ) (skills workloads : List Data) → items_depth (items_of skills) ≤ 0
    → items_depth (items_of workloads) ≤ 0 → depth (object (patient_members p a due skills workloads)) ≤ 2
due-depth p a None skills workloads flat even = omega arith
due-depth p a (Some due) skills workloads flat even = omega arith

patient-depth : (days p : ℕ) (s : List ℕ) → depth (patient_data days p s) ≤ 2
patient-depth days p s =
    let a = patient_picks s in
    let shifts = 3 * a.person.length_of_stay in
    due-depth p a (due_day days p a) (skills (state_after 7 s) shifts) (workloads (state_after 7 s) shifts) (skills-depth (state_after 7 s) shifts) (workloads-depth (state_after 7 s) shifts)

-- ---- nurses, surgeons and theatres

nurse-depth : (days n : ℕ) (s : List ℕ) → depth (nurse_data days n s) ≤ 3
nurse-depth days n s =
    let shifts = nested 1 (worked_data n (state_after 1 s)) (which_below days (works n)) (λ d. omega arith) in
    omega (arith, shifts)

each_day-depth : (days minutes : ℕ) → depth (each_day days minutes) ≤ 1
unfolding each_day
each_day-depth days minutes =
    let flat = nested 0 (λ d. number_data minutes) (range_with_len 0 days) (λ d. omega arith) in
    omega (arith, flat)

numbered-depth : (thing : ℕ → Data) (n : ℕ) → ((i : ℕ) → depth (thing i) ≤ 2) → depth (numbered thing n) ≤ 3
unfolding numbered
numbered-depth thing n h =
    let items = nested 2 thing (range_with_len 0 n) h in
    omega (arith, items)

-- ---- the file

row-depth : (m : ℕ) (thing : ℕ → List ℕ → Data) (words : ℕ → List ℕ → ℕ) (n : ℕ) (s : List ℕ) → ((i : ℕ) (t : List ℕ) → depth (thing i t) ≤ m)
    → items_depth (items_of (in_a_row thing words n s)) ≤ m
unfolding in_a_row
row-depth m thing words n s h = nested m (λ i. thing i (begins words i s)) (range_with_len 0 n) (λ i. h i (begins words i s))

pub generated-depth : (number : ℕ) → depth (generated_data number) ≤ 5
unfolding generated_data
generated-depth number =
    let rooms = row-depth 1 room_data room_words 25 (stream_of number) (λ r t. omega arith) in
    let nurses = row-depth 3 (nurse_data 28) (nurse_words 28) 50 (nurse_stream number) (nurse-depth 28) in
    let occupants = row-depth 2 occupant_data occupant_words 3 (occupant_stream number) occupant-depth in
    let patients = row-depth 2 (patient_data 28) patient_words 400 (patient_stream number) (patient-depth 28) in
    let surgeons = numbered-depth (surgeon_data 28) 10 (λ s. let minutes = each_day-depth 28 480 in omega (arith, minutes)) in
    let theatres = numbered-depth (theatre_data 28) 5 (λ t. let minutes = each_day-depth 28 600 in omega (arith, minutes)) in
    omega (arith, rooms, nurses, occupants, patients, surgeons, theatres)
