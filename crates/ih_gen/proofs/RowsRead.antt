-- Each generated room, surgeon, theatre, occupant and patient is read as it was meant.
use Rattle.std.proofs.Common.{◌≡◌, ℕ, zero, suc, ◌+◌, ◌-◌, ◌*◌, ◌^◌, ◌<◌, ◌≤◌, refl, arith, Bool, true, false, List, [], ◌∷◌, Option, Some, None, min}
use Rattle.std.specs.Prelude.{Ok, codes, ◌==◌, if◌then◌else◌}
use Rattle.serde_json.specs.Data.{string, object}
use Rattle.serde_json.proofs.OnLiterals.{serde_json_on_literals}
use Rattle.ih_tables.specs.declared.drafts.Room.{Room}
use Rattle.ih_tables.specs.declared.drafts.Surgeon.{Surgeon}
use Rattle.ih_tables.specs.declared.drafts.Theatre.{Theatre}
use Rattle.ih_tables.specs.declared.drafts.Occupant.{Occupant}
use Rattle.ih_tables.specs.declared.drafts.Patient.{Patient}
use Rattle.ih_tables.specs.declared.refusals.Place.{Place}
use Rattle.ih_tables.specs.declared.refusals.Key.TheVariants as keys
use Rattle.ih_tables.specs.Lookups.{number_in}
use Rattle.ih_tables.specs.Places.{at_key, at_item}
use Rattle.ih_plan.specs.Draws.{state_after}
use Rattle.ih_tables.specs.Listed.{listed}
use Rattle.ih_format.specs.Checks.{text, reference, vector, each_after}
use Rattle.ih_instance.specs.Instance.{room, surgeon, theatre, occupant, patient, room_numbers}
use Rattle.ih_solution.specs.Solution.{list_data}
use Rattle.ih_gen.specs.Words.{pick}
use Rattle.ih_gen.specs.Generated.{gender_name, age_name, id_data, room_data, surgeon_data, theatre_data, each_day, skills, workloads, person_picks, occupant_data, patient_picks, is_mandatory, surgeon_of, due_day, patient_members, patient_data}
use Rattle.ih_gen.proofs.Readings.{id, new-id, known-id, pick-below, number-reads, vector-reads}

abbrev pub room_of : ℕ → List ℕ → Room
room_of r s = record { id = id 114 r; capacity = 1 + pick s 0 3 }

pub room-reads : (r : ℕ) (s : List ℕ) (earlier : List ℕ → Option ℕ) (p : Place) → r < 2 ^ 32 → earlier (id 114 r) ≡ None → room earlier p (room_data r s) ≡ Ok (room_of r s)
unfolding serde_json_on_literals room
room-reads r s earlier p small none =
    let below = pick-below s 0 3 (omega arith) in
    rw (new-id 114 r earlier (at_key keys.Id p) small none, number-reads 0 1000 (1 + pick s 0 3) (at_key keys.Capacity p) (omega arith) (omega (arith, below))) refl

minutes-read : (days minutes : ℕ) (p : Place) → minutes ≤ 100000 → vector days 100000 p (each_day days minutes) ≡ Ok (listed days (λ d. minutes))
unfolding each_day
minutes-read days minutes p most = vector-reads days days 100000 (λ d. minutes) p (omega arith) (λ d. most)

abbrev pub surgeon_with : ℕ → ℕ → Surgeon
surgeon_with days s = record { id = id 115 s; max_surgery_time = listed days (λ d. 480) }

pub surgeon-reads : (days s : ℕ) (earlier : List ℕ → Option ℕ) (p : Place) → s < 2 ^ 32 → earlier (id 115 s) ≡ None → surgeon days earlier p (surgeon_data days s) ≡ Ok (surgeon_with days s)
unfolding serde_json_on_literals surgeon
surgeon-reads days s earlier p small none = rw (new-id 115 s earlier (at_key keys.Id p) small none, minutes-read days 480 (at_key keys.MaxSurgeryTime p) (omega arith)) refl

abbrev pub theatre_with : ℕ → ℕ → Theatre
theatre_with days t = record { id = id 116 t; availability = listed days (λ d. 600) }

pub theatre-reads : (days t : ℕ) (earlier : List ℕ → Option ℕ) (p : Place) → t < 2 ^ 32 → earlier (id 116 t) ≡ None → theatre days earlier p (theatre_data days t) ≡ Ok (theatre_with days t)
unfolding serde_json_on_literals theatre
theatre-reads days t earlier p small none = rw (new-id 116 t earlier (at_key keys.Id p) small none, minutes-read days 600 (at_key keys.Availability p) (omega arith)) refl

-- ---- persons

unfoldable pub ages : List (List ℕ)
ages = age_name 0 ∷ age_name 1 ∷ age_name 2 ∷ age_name 3 ∷ []

gender-reads : (g : ℕ) (p : Place) → text p (string (gender_name g)) ≡ Ok (gender_name g)
gender-reads g p = by_case (g == 0)
  where
    by_case : (b : Bool) → text p (string (if b then codes "A" else codes "B")) ≡ Ok (if b then codes "A" else codes "B")
    by_case true = refl
    by_case false = refl

age-reads : (a : ℕ) (p : Place) → a < 4 → reference (number_in ages) p (string (age_name a)) ≡ Ok a
unfolding number_in ages
age-reads zero p h = refl
age-reads (suc zero) p h = refl
age-reads (suc (suc zero)) p h = refl
age-reads (suc (suc (suc zero))) p h = refl
age-reads (suc (suc (suc (suc a)))) p h = absurd (omega arith)

work-reads : (s : List ℕ) (stay days : ℕ) (p : Place) → vector (3 * min stay days) 100000 p (list_data (workloads s (3 * stay))) ≡ Ok (listed (3 * min stay days) (λ k. 1 + pick s (2 * k) 3))
work-reads s stay days p = vector-reads (3 * min stay days) (3 * stay) 100000 (λ k. 1 + pick s (2 * k) 3) p (omega arith)
    (λ k. let below = pick-below s (2 * k) 3 (omega arith) in omega (arith, below))

skill-reads : (s : List ℕ) (stay days : ℕ) (p : Place) → vector (3 * min stay days) 1000 p (list_data (skills s (3 * stay))) ≡ Ok (listed (3 * min stay days) (λ k. pick s (2 * k + 1) 3))
skill-reads s stay days p = vector-reads (3 * min stay days) (3 * stay) 1000 (λ k. pick s (2 * k + 1) 3) p (omega arith)
    (λ k. let below = pick-below s (2 * k + 1) 3 (omega arith) in omega (arith, below))

abbrev pub occupant_with : ℕ → ℕ → List ℕ → Occupant
occupant_with days n s =
    let a = person_picks s 5 in
    record {
      id = id 97 n;
      gender = gender_name a.gender;
      age_group = a.age_group;
      length_of_stay = a.length_of_stay;
      workload_produced = listed (3 * min a.length_of_stay days) (λ k. 1 + pick (state_after 3 s) (2 * k) 3);
      skill_level_required = listed (3 * min a.length_of_stay days) (λ k. pick (state_after 3 s) (2 * k + 1) 3);
      room_id = record { 0 = n };
    }

pub occupant-reads : (days n : ℕ) (s : List ℕ) (rooms earlier : List ℕ → Option ℕ) (p : Place) → n < 2 ^ 32 → earlier (id 97 n) ≡ None → rooms (id 114 n) ≡ Some n
    → occupant days (number_in ages) rooms earlier p (occupant_data n s) ≡ Ok (occupant_with days n s)
unfolding serde_json_on_literals occupant
occupant-reads days n s rooms earlier p small none room =
    let a = person_picks s 5 in
    let age = pick-below s 1 4 (omega arith) in
    let stay = pick-below s 2 5 (omega arith) in
    rw (
      new-id 97 n earlier (at_key keys.Id p) small none,
      gender-reads a.gender (at_key keys.Gender p),
      age-reads a.age_group (at_key keys.AgeGroup p) age,
      number-reads 1 100 a.length_of_stay (at_key keys.LengthOfStay p) (omega arith) (omega (arith, stay)),
      work-reads (state_after 3 s) a.length_of_stay days (at_key keys.WorkloadProduced p),
      skill-reads (state_after 3 s) a.length_of_stay days (at_key keys.SkillLevelRequired p),
      known-id 114 n n rooms (at_key keys.RoomId p) small room,
    ) refl

-- ---- patients

abbrev pub patient_with : ℕ → ℕ → List ℕ → Patient
patient_with days p s =
    let a = patient_picks s in
    record {
      id = id 112 p;
      mandatory = is_mandatory p;
      gender = gender_name a.person.gender;
      age_group = a.person.age_group;
      length_of_stay = a.person.length_of_stay;
      surgery_release_day = a.release_day;
      surgery_due_day = due_day days p a;
      surgery_duration = a.duration;
      surgeon_id = record { 0 = surgeon_of p };
      incompatible_room_ids = record { 0 = a.incompatible_room } ∷ [];
      workload_produced = listed (3 * min a.person.length_of_stay days) (λ k. 1 + pick (state_after 7 s) (2 * k) 3);
      skill_level_required = listed (3 * min a.person.length_of_stay days) (λ k. pick (state_after 7 s) (2 * k + 1) 3);
    }

closed-reads : (r : ℕ) (rooms : List ℕ → Option ℕ) (p : Place) → r < 2 ^ 32 → rooms (id 114 r) ≡ Some r → room_numbers rooms p (list_data (id_data (codes "r") r ∷ [])) ≡ Ok (record { 0 = r } ∷ [])
unfolding each_after
closed-reads r rooms p small room = rw (known-id 114 r r rooms (at_item 0 p) small room) refl

-- a mandatory patient, and an optional one
mandatory-reads : (days p due : ℕ) (s : List ℕ) (surgeons rooms earlier : List ℕ → Option ℕ) (q : Place) → p < 2 ^ 32 → earlier (id 112 p) ≡ None
    → surgeons (id 115 (surgeon_of p)) ≡ Some (surgeon_of p) → rooms (id 114 (pick s 6 25)) ≡ Some (pick s 6 25) → is_mandatory p ≡ true → due ≤ 1000
    → patient days (number_in ages) surgeons rooms earlier q
    (object (patient_members p (patient_picks s) (Some due) (skills (state_after 7 s) (3 * (1 + pick s 2 6)))
    (workloads (state_after 7 s) (3 * (1 + pick s 2 6)))))
    ≡ Ok (record (patient_with days p s) { surgery_due_day = Some due })
unfolding serde_json_on_literals patient
mandatory-reads days p due s surgeons rooms earlier q small none surgeon room e most =
    let a = patient_picks s in
    let age = pick-below s 1 4 (omega arith) in
    let stay = pick-below s 2 6 (omega arith) in
    let release = pick-below s 3 28 (omega arith) in
    let duration = pick-below s 5 4 (omega arith) in
    let closed = pick-below s 6 25 (omega arith) in
    rw (
      new-id 112 p earlier (at_key keys.Id q) small none,
      gender-reads a.person.gender (at_key keys.Gender q),
      age-reads a.person.age_group (at_key keys.AgeGroup q) age,
      number-reads 1 100 a.person.length_of_stay (at_key keys.LengthOfStay q) (omega arith) (omega (arith, stay)),
      number-reads 0 1000 a.release_day (at_key keys.SurgeryReleaseDay q) (omega arith) (omega (arith, release)),
      e,
      number-reads 0 1000 due (at_key keys.SurgeryDueDay q) (omega arith) most,
      number-reads 0 100000 a.duration (at_key keys.SurgeryDuration q) (omega arith) (omega (arith, duration)),
      known-id 115 (surgeon_of p) (surgeon_of p) surgeons (at_key keys.SurgeonId q) (omega arith) surgeon,
      closed-reads a.incompatible_room rooms (at_key keys.IncompatibleRoomIds q) (omega (arith, closed)) room,
      work-reads (state_after 7 s) a.person.length_of_stay days (at_key keys.WorkloadProduced q),
      skill-reads (state_after 7 s) a.person.length_of_stay days (at_key keys.SkillLevelRequired q),
    ) refl

optional-reads : (days p : ℕ) (s : List ℕ) (surgeons rooms earlier : List ℕ → Option ℕ) (q : Place) → p < 2 ^ 32 → earlier (id 112 p) ≡ None
    → surgeons (id 115 (surgeon_of p)) ≡ Some (surgeon_of p) → rooms (id 114 (pick s 6 25)) ≡ Some (pick s 6 25) → is_mandatory p ≡ false
    → patient days (number_in ages) surgeons rooms earlier q
    (object (patient_members p (patient_picks s) None (skills (state_after 7 s) (3 * (1 + pick s 2 6)))
    (workloads (state_after 7 s) (3 * (1 + pick s 2 6)))))
    ≡ Ok (record (patient_with days p s) { surgery_due_day = None })
unfolding serde_json_on_literals patient
optional-reads days p s surgeons rooms earlier q small none surgeon room e =
    let a = patient_picks s in
    let age = pick-below s 1 4 (omega arith) in
    let stay = pick-below s 2 6 (omega arith) in
    let release = pick-below s 3 28 (omega arith) in
    let duration = pick-below s 5 4 (omega arith) in
    let closed = pick-below s 6 25 (omega arith) in
    rw (
      new-id 112 p earlier (at_key keys.Id q) small none,
      gender-reads a.person.gender (at_key keys.Gender q),
      age-reads a.person.age_group (at_key keys.AgeGroup q) age,
      number-reads 1 100 a.person.length_of_stay (at_key keys.LengthOfStay q) (omega arith) (omega (arith, stay)),
      number-reads 0 1000 a.release_day (at_key keys.SurgeryReleaseDay q) (omega arith) (omega (arith, release)),
      e,
      number-reads 0 100000 a.duration (at_key keys.SurgeryDuration q) (omega arith) (omega (arith, duration)),
      known-id 115 (surgeon_of p) (surgeon_of p) surgeons (at_key keys.SurgeonId q) (omega arith) surgeon,
      closed-reads a.incompatible_room rooms (at_key keys.IncompatibleRoomIds q) (omega (arith, closed)) room,
      work-reads (state_after 7 s) a.person.length_of_stay days (at_key keys.WorkloadProduced q),
      skill-reads (state_after 7 s) a.person.length_of_stay days (at_key keys.SkillLevelRequired q),
    ) refl

pub patient-reads : (days p : ℕ) (s : List ℕ) (surgeons rooms earlier : List ℕ → Option ℕ) (q : Place) → 0 < days → days ≤ 56 → p < 2 ^ 32 → earlier (id 112 p) ≡ None
    → surgeons (id 115 (surgeon_of p)) ≡ Some (surgeon_of p) → rooms (id 114 (pick s 6 25)) ≡ Some (pick s 6 25)
    → patient days (number_in ages) surgeons rooms earlier q (patient_data days p s) ≡ Ok (patient_with days p s)
patient-reads days p s surgeons rooms earlier q some few small none surgeon room = by_case (is_mandatory p) refl
  where
    due : ℕ
    due = min (pick s 3 28 + pick s 4 8) (days - 1)

    by_case : (b : Bool) → is_mandatory p ≡ b
        → patient days (number_in ages) surgeons rooms earlier q
        (object (patient_members p (patient_picks s) (if b then Some due else None) (skills (state_after 7 s) (3 * (1 + pick s 2 6)))
        (workloads (state_after 7 s) (3 * (1 + pick s 2 6)))))
        ≡ Ok (record (patient_with days p s) { surgery_due_day = (if b then Some due else None) })
    by_case true e = mandatory-reads days p due s surgeons rooms earlier q small none surgeon room e (omega arith)
    by_case false e = optional-reads days p s surgeons rooms earlier q small none surgeon room e
