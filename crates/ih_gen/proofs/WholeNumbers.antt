-- The numbers of a generated instance are whole.
use Rattle.std.proofs.Common.{◌≡◌, ℕ, ◌+◌, ◌*◌, refl, false, List}
use Rattle.std.specs.Prelude.{Option, Some, None}
use Rattle.std.specs.List.{range_with_len}
use Rattle.serde_json.specs.Data.{Data, object}
use Rattle.serde_json.specs.View.{items_of}
use Rattle.serde_json.specs.Written.{has_float, items_have_float}
use Rattle.ih_plan.specs.Draws.{state_after}
use Rattle.ih_plan.specs.Sums.{which_below}
use Rattle.ih_solution.specs.Solution.{number_data}
use Rattle.ih_solution.proofs.WholeNumbers.{no_floats}
use Rattle.ih_gen.specs.declared.patients.PatientPicks.{PatientPicks}
use Rattle.ih_gen.specs.declared.persons.PersonPicks.{PersonPicks}
use Rattle.ih_gen.specs.Words.{stream_of, pick, begins, in_a_row}
use Rattle.ih_gen.specs.Generated.{works, worked_data, room_data, room_words, nurse_data, nurse_words, person_picks, occupant_members, occupant_data, occupant_words, skills, workloads, patient_picks, patient_members, patient_data, patient_words, due_day, each_day, surgeon_data, theatre_data, numbered, generated_data, nurse_stream, occupant_stream, patient_stream}

-- ---- persons

skills-float : (s : List ℕ) (shifts : ℕ) → items_have_float (items_of (skills s shifts)) ≡ false
skills-float s shifts = no_floats (λ k. number_data (pick s (2 * k + 1) 3)) (range_with_len 0 shifts) (λ k. refl)

workloads-float : (s : List ℕ) (shifts : ℕ) → items_have_float (items_of (workloads s shifts)) ≡ false
workloads-float s shifts = no_floats (λ k. number_data (1 + pick s (2 * k) 3)) (range_with_len 0 shifts) (λ k. refl)

members-float : (n : ℕ) (a : PersonPicks) (skills workloads : List Data) → items_have_float (items_of skills) ≡ false → items_have_float (items_of workloads) ≡ false
    → has_float (object (occupant_members n a skills workloads)) ≡ false
members-float n a skills workloads e f = rw (e, f) refl

occupant-float : (n : ℕ) (s : List ℕ) → has_float (occupant_data n s) ≡ false
occupant-float n s =
    let shifts = 3 * (person_picks s 5).length_of_stay in
    members-float n (person_picks s 5) (skills (state_after 3 s) shifts) (workloads (state_after 3 s) shifts) (skills-float (state_after 3 s) shifts) (workloads-float (state_after 3 s) shifts)

due-float : (p : ℕ) (a : PatientPicks) (due : Option ℕ) (skills workloads : List Data) → items_have_float (items_of skills) ≡ false → items_have_float (items_of workloads) ≡ false
    → has_float (object (patient_members p a due skills workloads)) ≡ false
due-float p a None skills workloads e f = rw (e, f) refl
due-float p a (Some due) skills workloads e f = rw (e, f) refl

patient-float : (days p : ℕ) (s : List ℕ) → has_float (patient_data days p s) ≡ false
patient-float days p s =
    let a = patient_picks s in
    let shifts = 3 * a.person.length_of_stay in
    due-float p a (due_day days p a) (skills (state_after 7 s) shifts) (workloads (state_after 7 s) shifts) (skills-float (state_after 7 s) shifts) (workloads-float (state_after 7 s) shifts)

-- ---- nurses, surgeons and theatres

nurse-float : (days n : ℕ) (s : List ℕ) → has_float (nurse_data days n s) ≡ false
nurse-float days n s = rw (no_floats (worked_data n (state_after 1 s)) (which_below days (works n)) (λ d. refl)) refl

each_day-float : (days minutes : ℕ) → has_float (each_day days minutes) ≡ false
unfolding each_day
each_day-float days minutes = no_floats (λ d. number_data minutes) (range_with_len 0 days) (λ d. refl)

numbered-float : (thing : ℕ → Data) (n : ℕ) → ((i : ℕ) → has_float (thing i) ≡ false) → has_float (numbered thing n) ≡ false
unfolding numbered
numbered-float thing n h = no_floats thing (range_with_len 0 n) h

-- ---- the file

row-float : (thing : ℕ → List ℕ → Data) (words : ℕ → List ℕ → ℕ) (n : ℕ) (s : List ℕ) → ((i : ℕ) (t : List ℕ) → has_float (thing i t) ≡ false)
    → items_have_float (items_of (in_a_row thing words n s)) ≡ false
unfolding in_a_row
row-float thing words n s h = no_floats (λ i. thing i (begins words i s)) (range_with_len 0 n) (λ i. h i (begins words i s))

pub generated-float : (number : ℕ) → has_float (generated_data number) ≡ false
unfolding generated_data
generated-float number =
    rw (
      row-float (nurse_data 28) (nurse_words 28) 50 (nurse_stream number) (nurse-float 28),
      row-float occupant_data occupant_words 3 (occupant_stream number) occupant-float,
      numbered-float (theatre_data 28) 5 (λ t. rw (each_day-float 28 600) refl),
      row-float (patient_data 28) patient_words 400 (patient_stream number) (patient-float 28),
      row-float room_data room_words 25 (stream_of number) (λ r s. refl),
      numbered-float (surgeon_data 28) 10 (λ s. rw (each_day-float 28 480) refl),
    ) refl

pub ruleset whole_numbers = generated-float
