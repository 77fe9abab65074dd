-- Each generated instance is read.
use Rattle.std.proofs.Common.{◌≡◌, ℕ, ◌<◌, ◌≤◌, refl, ◌∙◌, ap, arith, List, [], ◌∷◌, Some, pos}
use Rattle.std.specs.List.{range_with_len}
use Rattle.std.specs.Prelude.{Ok, codes}
use Rattle.std.specs.Str.{IsUtf8}
use Rattle.std.proofs.lemmas.Str.{is_utf8-from_IsUtf8}
use Rattle.serde_json.specs.Data.{Data, object, no_members, member}
use Rattle.serde_json.specs.Read.{read}
use Rattle.serde_json.proofs.OnLiterals.{serde_json_on_literals}
use Rattle.ih_tables.specs.declared.drafts.Draft.{Draft}
use Rattle.ih_tables.specs.declared.drafts.Room.{Room}
use Rattle.ih_tables.specs.declared.drafts.Surgeon.{Surgeon}
use Rattle.ih_tables.specs.declared.drafts.Theatre.{Theatre}
use Rattle.ih_tables.specs.declared.drafts.Nurse.{Nurse}
use Rattle.ih_tables.specs.declared.drafts.Occupant.{Occupant}
use Rattle.ih_tables.specs.declared.drafts.Patient.{Patient}
use Rattle.ih_tables.specs.declared.bills.Weights.{Weights}
use Rattle.ih_tables.specs.declared.refusals.Place.{Place}
use Rattle.ih_tables.specs.declared.refusals.Key.TheVariants as keys
use Rattle.ih_tables.specs.Lookups.{number_in}
use Rattle.ih_tables.specs.Places.{at_key, whole}
use Rattle.ih_tables.specs.Listed.{listed}
use Rattle.ih_format.specs.Checks.{each_after}
use Rattle.ih_format.specs.Documents.{value_of}
use Rattle.ih_instance.specs.Instance.{room, surgeon, theatre, nurse, occupant, patient, names_of_rooms, names_of_surgeons, rooms, surgeons, theatres, nurses, occupants, patients, names, weights, draft, instance, draft_with}
use Rattle.ih_solution.specs.Solution.{number_data, list_data}
use Rattle.ih_gen.specs.Words.{stream_of, pick, begins, in_a_row}
use Rattle.ih_gen.specs.Generated.{room_data, room_words, surgeon_data, theatre_data, numbered, nurse_data, nurse_words, occupant_data, occupant_words, surgeon_of, patient_data, patient_words, age_groups_data, shift_types_data, weights_data, generated_data, nurse_stream, occupant_stream, patient_stream}
use Rattle.ih_gen.proofs.Readings.{id, id-found, pick-below, names-of, named-reads}
use Rattle.ih_gen.proofs.RowsRead.{ages, room_of, room-reads, surgeon_with, surgeon-reads, theatre_with, theatre-reads, occupant_with, occupant-reads, patient_with, patient-reads}
use Rattle.ih_gen.proofs.ShiftsRead.{types, nurse_with, nurse-reads}

abbrev room_rows : ℕ → List ℕ → List Room
room_rows n s = listed n (λ r. room_of r (begins room_words r s))

rooms-read : (n : ℕ) (s : List ℕ) (p : Place) → 1 ≤ n → n ≤ 128 → rooms p (list_data (in_a_row room_data room_words n s)) ≡ Ok (room_rows n s)
unfolding in_a_row
rooms-read n s p some few =
    named-reads 1 128 (λ (r : Room). r.id) room 114 n (λ r. room_data r (begins room_words r s)) (λ r. room_of r (begins room_words r s)) p (λ r. refl) some few (omega arith)
    (λ r earlier q below none. room-reads r (begins room_words r s) earlier q (omega arith) none)

room-known : (n : ℕ) (s : List ℕ) (k : ℕ) → n ≤ 128 → k < n → number_in (names_of_rooms (room_rows n s)) (id 114 k) ≡ Some k
room-known n s k few below =
    ap (λ names. number_in names (id 114 k)) (names-of (λ (r : Room). r.id) (λ r. room_of r (begins room_words r s)) 114 (range_with_len 0 n) (λ r. refl)) ∙ id-found 114 n k (omega arith) below

surgeons-read : (days n : ℕ) (p : Place) → n ≤ 128 → surgeons days p (numbered (surgeon_data days) n) ≡ Ok (listed n (surgeon_with days))
unfolding numbered
surgeons-read days n p few =
    named-reads 0 128 (λ (s : Surgeon). s.id) (surgeon days) 115 n (surgeon_data days) (surgeon_with days) p (λ s. refl) (omega arith) few (omega arith)
    (λ s earlier q below none. surgeon-reads days s earlier q (omega arith) none)

surgeon-known : (days n k : ℕ) → n ≤ 128 → k < n → number_in (names_of_surgeons (listed n (surgeon_with days))) (id 115 k) ≡ Some k
surgeon-known days n k few below =
    ap (λ names. number_in names (id 115 k)) (names-of (λ (s : Surgeon). s.id) (surgeon_with days) 115 (range_with_len 0 n) (λ s. refl)) ∙ id-found 115 n k (omega arith) below

theatres-read : (days n : ℕ) (p : Place) → n ≤ 64 → theatres days p (numbered (theatre_data days) n) ≡ Ok (listed n (theatre_with days))
unfolding numbered
theatres-read days n p few =
    named-reads 0 64 (λ (t : Theatre). t.id) (theatre days) 116 n (theatre_data days) (theatre_with days) p (λ t. refl) (omega arith) few (omega arith)
    (λ t earlier q below none. theatre-reads days t earlier q (omega arith) none)

nurses-read : (days n : ℕ) (s : List ℕ) (p : Place) → n ≤ 512
    → nurses days types p (list_data (in_a_row (nurse_data days) (nurse_words days) n s))
    ≡ Ok (listed n (λ i. nurse_with days i (begins (nurse_words days) i s)))
unfolding in_a_row
nurses-read days n s p few =
    named-reads 0 512 (λ (a : Nurse). a.id) (nurse days (number_in types)) 110 n (λ i. nurse_data days i (begins (nurse_words days) i s)) (λ i. nurse_with days i (begins (nurse_words days) i s)) p
    (λ i. refl) (omega arith) few (omega arith)
    (λ i earlier q below none. nurse-reads days i (begins (nurse_words days) i s) earlier q (omega arith) none)

occupants-read : (days n m : ℕ) (s t : List ℕ) (p : Place) → n ≤ m → m ≤ 128
    → occupants days ages (room_rows m t) p (list_data (in_a_row occupant_data occupant_words n s)) ≡ Ok (listed n (λ i. occupant_with days i (begins occupant_words i s)))
unfolding in_a_row
occupants-read days n m s t p fits few =
    named-reads 0 512 (λ (o : Occupant). o.id) (occupant days (number_in ages) (number_in (names_of_rooms (room_rows m t)))) 97 n (λ i. occupant_data i (begins occupant_words i s))
    (λ i. occupant_with days i (begins occupant_words i s)) p (λ i. refl) (omega arith) (omega arith) (omega arith)
    (λ i earlier q below none. occupant-reads days i (begins occupant_words i s) (number_in (names_of_rooms (room_rows m t))) earlier q (omega arith) none (room-known m t i few (omega arith)))

patients-read : (days n m k : ℕ) (s t : List ℕ) (p : Place) → 0 < days → days ≤ 56 → n ≤ 2048 → 25 ≤ m → m ≤ 128 → 10 ≤ k → k ≤ 128
    → patients days ages (listed k (surgeon_with days)) (room_rows m t) p (list_data (in_a_row (patient_data days) patient_words n s))
    ≡ Ok (listed n (λ i. patient_with days i (begins patient_words i s)))
unfolding in_a_row
patients-read days n m k s t p some month few many_rooms rooms many_surgeons surgeons =
    named-reads 0 2048 (λ (a : Patient). a.id) (patient days (number_in ages) (number_in (names_of_surgeons (listed k (surgeon_with days)))) (number_in (names_of_rooms (room_rows m t)))) 112 n
    (λ i. patient_data days i (begins patient_words i s)) (λ i. patient_with days i (begins patient_words i s)) p (λ i. refl) (omega arith) few (omega arith)
    (λ i earlier q below none.
    let u = begins patient_words i s in
    let closed = pick-below u 6 25 (omega arith) in
    patient-reads days i u (number_in (names_of_surgeons (listed k (surgeon_with days)))) (number_in (names_of_rooms (room_rows m t))) earlier q some month (omega arith) none
    (surgeon-known days k (surgeon_of i) surgeons (omega arith)) (room-known m t (pick u 6 25) rooms (omega (arith, closed))))

-- an instance of these six lists, in which all else is as it is generated
abbrev data_of : Data → Data → Data → Data → Data → Data → Data
data_of nurses occupants theatres patients rooms surgeons = object
    (member (codes "age_groups") age_groups_data
    (member (codes "days") (number_data 28)
    (member (codes "nurses") nurses
    (member (codes "occupants") occupants
    (member (codes "operating_theaters") theatres
    (member (codes "patients") patients
    (member (codes "rooms") rooms
    (member (codes "shift_types") shift_types_data
    (member (codes "skill_levels") (number_data 3)
    (member (codes "surgeons") surgeons
    (member (codes "weights") weights_data no_members)))))))))))

abbrev usual_weights : Weights
usual_weights = record { w = pos 5 ∷ pos 10 ∷ pos 5 ∷ pos 1 ∷ pos 30 ∷ pos 10 ∷ pos 10 ∷ pos 300 ∷ [] }

-- what is read of it, where this is read of the lists
abbrev draft_of : List Surgeon → List Theatre → List Room → List Nurse → List Occupant → List Patient → Draft
draft_of ss ts rs ns os ps = draft_with 28 3 types ages usual_weights ss ts rs ns os ps

-- what is read of the instance that a number generates
unfoldable pub generated_draft : ℕ → Draft
generated_draft number =
    draft_of
    (listed 10 (surgeon_with 28))
    (listed 5 (theatre_with 28))
    (room_rows 25 (stream_of number))
    (listed 50 (λ i. nurse_with 28 i (begins (nurse_words 28) i (nurse_stream number))))
    (listed 3 (λ i. occupant_with 28 i (begins occupant_words i (occupant_stream number))))
    (listed 400 (λ i. patient_with 28 i (begins patient_words i (patient_stream number))))

types-read : (p : Place) → names 3 3 p shift_types_data ≡ Ok types
unfolding serde_json_on_literals number_in each_after types
types-read p = refl

ages-read : (p : Place) → names 0 64 p age_groups_data ≡ Ok ages
unfolding serde_json_on_literals number_in each_after ages
ages-read p = refl

weights-read : (p : Place) → weights p weights_data ≡ Ok usual_weights
unfolding serde_json_on_literals weights
weights-read p = refl

-- an instance of these six lists, where each list reads
lists-read : (nurses_data occupants_data theatres_data patients_data rooms_data surgeons_data : Data) (ss : List Surgeon) (ts : List Theatre) (rs : List Room)
    (ns : List Nurse) (os : List Occupant) (ps : List Patient)
    → surgeons 28 (at_key keys.Surgeons whole) surgeons_data ≡ Ok ss → theatres 28 (at_key keys.OperatingTheaters whole) theatres_data ≡ Ok ts → rooms (at_key keys.Rooms whole) rooms_data ≡ Ok rs
    → nurses 28 types (at_key keys.Nurses whole) nurses_data ≡ Ok ns → occupants 28 ages rs (at_key keys.Occupants whole) occupants_data ≡ Ok os
    → patients 28 ages ss rs (at_key keys.Patients whole) patients_data ≡ Ok ps
    → draft whole (data_of nurses_data occupants_data theatres_data patients_data rooms_data surgeons_data) ≡ Ok (draft_of ss ts rs ns os ps)
unfolding serde_json_on_literals draft
lists-read nurses_data occupants_data theatres_data patients_data rooms_data surgeons_data ss ts rs ns os ps for_surgeons for_theatres for_rooms for_nurses for_occupants for_patients =
    rw (
      types-read (at_key keys.ShiftTypes whole),
      ages-read (at_key keys.AgeGroups whole),
      weights-read (at_key keys.Weights whole),
      for_surgeons,
      for_theatres,
      for_rooms,
      for_nurses,
      for_occupants,
      for_patients,
    ) refl

data-reads : (number : ℕ) → draft whole (generated_data number) ≡ Ok (generated_draft number)
unfolding generated_data generated_draft
data-reads number =
    lists-read _ _ _ _ _ _ _ _ _ _ _ _
    (surgeons-read 28 10 (at_key keys.Surgeons whole) (omega arith))
    (theatres-read 28 5 (at_key keys.OperatingTheaters whole) (omega arith))
    (rooms-read 25 (stream_of number) (at_key keys.Rooms whole) (omega arith) (omega arith))
    (nurses-read 28 50 (nurse_stream number) (at_key keys.Nurses whole) (omega arith))
    (occupants-read 28 3 25 (occupant_stream number) (stream_of number) (at_key keys.Occupants whole) (omega arith) (omega arith))
    (patients-read 28 400 25 10 (patient_stream number) (stream_of number) (at_key keys.Patients whole) (omega arith)
    (omega arith) (omega arith) (omega arith) (omega arith) (omega arith) (omega arith))

pub reads-back : (number : ℕ) (bytes : List ℕ) → IsUtf8 bytes → read bytes ≡ Some (generated_data number) → instance bytes ≡ Ok (generated_draft number)
reads-back number bytes utf8 same =
    let value : value_of bytes ≡ Some (generated_data number) = rw (is_utf8-from_IsUtf8 bytes utf8) same in
    rw value (data-reads number)
