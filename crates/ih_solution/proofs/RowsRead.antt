-- The rows of a written solution file read as the timetable's stays and assignments.
use Rattle.std.proofs.Common.{◌≡◌, ℕ, ◌+◌, ◌*◌, ◌/◌, ◌%◌, ◌<◌, ◌≤◌, refl, arith, Bool, true, false, List, [], map, Option, Some, None}
use Rattle.std.specs.Prelude.{◌-◌, Ok}
use Rattle.std.proofs.lemmas.Bool.{le-leb}
use Rattle.std.proofs.lemmas.List.{map-id}
use Rattle.serde_json.specs.Data.{string}
use Rattle.serde_json.proofs.OnLiterals.{serde_json_on_literals}
use Rattle.ih_tables.specs.declared.drafts.Draft.{Draft}
use Rattle.ih_tables.specs.declared.drafts.Patient.{Patient}
use Rattle.ih_tables.specs.declared.drafts.Nurse.{Nurse}
use Rattle.ih_tables.specs.declared.drafts.Room.{Room}
use Rattle.ih_tables.specs.declared.drafts.Theatre.{Theatre}
use Rattle.ih_tables.specs.declared.refusals.Place.{Place}
use Rattle.ih_tables.specs.declared.refusals.Key.TheVariants as keys
use Rattle.ih_tables.specs.Places.{at_key}
use Rattle.ih_tables.specs.Sizes.{patient_count, room_count, shift_count, nurse_count, theatre_count}
use Rattle.ih_tables.specs.Valid.{IsValid}
use Rattle.ih_plan.specs.declared.moves.Placement.{Placement}
use Rattle.ih_plan.specs.Timetable.{Timetable, IsPlacement, stay_of}
use Rattle.ih_plan.proofs.ListedBelow.{has, which_below-has}
use Rattle.ih_format.specs.Checks.{number}
use Rattle.ih_format.proofs.Listing.{same_items}
use Rattle.ih_solution.specs.Solution.{patient_id, nurse_id, room_id, theatre_id, shift_type_of, stay_data, number_data, list_data, assignment_data, rooms_data, rooms_of, shifts_with_rooms, nurse_data}
use Rattle.ih_solution.specs.Reading.{patient_named, room_named, theatre_named, shift_type_named, nurse_named, patient_row, free_room, free_rooms, assignment, nurse_row}
use Rattle.ih_solution.specs.declared.reader.rows.ListedStay.{ListedStay}
use Rattle.ih_solution.specs.declared.reader.rows.ListedNurse.{ListedNurse}
use Rattle.ih_solution.specs.declared.reader.rows.Assignment.{Assignment}
use Rattle.ih_solution.proofs.EachReads.{each-map}
use Rattle.ih_solution.proofs.NamesRead.{name-reads}

number-reads : (high n : ℕ) (q : Place) → n ≤ high → number 0 high q (number_data n) ≡ Ok n
number-reads high n q h = rw (le-leb 0 n (omega arith), le-leb n high h) refl

-- ---- patients

abbrev pub stay_row : Timetable → ℕ → ListedStay
stay_row P p = record { patient = record { 0 = p }; stay = stay_of P p }

patient-reads : (I : Draft) (p : ℕ) (q : Place) → IsValid I → p < patient_count I → patient_named I q (string (patient_id I p)) ≡ Ok p
patient-reads I p q valid h = name-reads 0 2048 (λ (a : Patient). a.id) I.patients q p valid.patients h

room-reads : (I : Draft) (r : ℕ) (q : Place) → IsValid I → r < room_count I → room_named I q (string (room_id I r)) ≡ Ok r
room-reads I r q valid h = name-reads 1 128 (λ (a : Room). a.id) I.rooms q r valid.rooms h

theatre-reads : (I : Draft) (t : ℕ) (q : Place) → IsValid I → t < theatre_count I → theatre_named I q (string (theatre_id I t)) ≡ Ok t
theatre-reads I t q valid h = name-reads 0 64 (λ (a : Theatre). a.id) I.operating_theaters q t valid.theatres h

nurse-reads : (I : Draft) (n : ℕ) (q : Place) → IsValid I → n < nurse_count I → nurse_named I q (string (nurse_id I n)) ≡ Ok n
nurse-reads I n q valid h = name-reads 0 512 (λ (a : Nurse). a.id) I.nurses q n valid.nurses h

type-reads : (I : Draft) (k : ℕ) (q : Place) → IsValid I → shift_type_named I q (string (shift_type_of I k)) ≡ Ok (k % 3)
type-reads I k q valid =
    let three = valid.types.len.least in
    rw map-id at (name-reads 3 3 (λ t. t) I.shift_types q (k % 3) valid.types (omega (arith, three)))

pub stay-reads : (I : Draft) (p : ℕ) (stay : Option Placement) (earlier : ℕ → Bool) (q : Place) → IsValid I → p < patient_count I → earlier p ≡ false
    → ((at : Placement) → stay ≡ Some at → IsPlacement I at)
    → patient_row I earlier q (stay_data I p stay) ≡ Ok (record { patient = record { 0 = p }; stay = stay })
unfolding serde_json_on_literals patient_row
stay-reads I p None earlier q valid h new placed = rw (patient-reads I p (at_key keys.Id q) valid h, new) refl
stay-reads I p (Some at) earlier q valid h new placed =
    let there = placed at refl in
    let some = valid.days.least in
    let day : number 0 (I.days - 1) (at_key keys.AdmissionDay q) (number_data at.day.0)
    ≡ Ok at.day.0 = number-reads (I.days - 1) at.day.0 (at_key keys.AdmissionDay q) (omega (arith, there.day, some)) in
    rw (
      patient-reads I p (at_key keys.Id q) valid h,
      new,
      day,
      room-reads I at.room.0 (at_key keys.Room q) valid there.room,
      theatre-reads I at.theatre.0
          (at_key keys.OperatingTheater q) valid there.theatre,
    ) refl

-- ---- nurses

abbrev pub assignment_row : Draft → Timetable → ℕ → ℕ → Assignment
assignment_row I P n k = record { shift = record { 0 = k }; rooms = map (λ r. record { 0 = r }) (rooms_of I P n k) }

abbrev pub nurse_as : Draft → Timetable → ℕ → ListedNurse
nurse_as I P n = record { nurse = record { 0 = n }; assignments = map (assignment_row I P n) (shifts_with_rooms I P n) }

-- the nurse's rooms of a shift are the instance's, and not taken
abbrev AreFree : Draft → (ℕ → ℕ → Bool) → List ℕ → ℕ → Type 0
AreFree I taken rooms k = (r : ℕ) → has r rooms ≡ true → (r < room_count I) × (taken r k ≡ false)

rooms-read : (I : Draft) (taken : ℕ → ℕ → Bool) (k : ℕ) (q : Place) (rooms : List ℕ) → IsValid I → AreFree I taken rooms k
    → free_rooms I taken k q (list_data (map (λ r. string (room_id I r)) rooms)) ≡ Ok (map (λ r. record { 0 = r }) rooms)
rooms-read I taken k q rooms valid free =
    rw same_items (each-map (free_room I taken k) (λ r. string (room_id I r)) (λ r. record { 0 = r }) q rooms [] (λ p r i.
    let there = free r i in
    rw (room-reads I r p valid there.0, there.1) refl))

assignment-reads : (I : Draft) (P : Timetable) (n k : ℕ) (taken : ℕ → ℕ → Bool) (q : Place) → IsValid I → k < shift_count I → AreFree I taken (rooms_of I P n k) k
    → assignment I taken q (assignment_data I k (rooms_data I P n k)) ≡ Ok (assignment_row I P n k)
unfolding serde_json_on_literals assignment
assignment-reads I P n k taken q valid h free =
    let day : number 0 (I.days - 1) (at_key keys.Day q) (number_data (k / 3)) ≡ Ok (k / 3) = number-reads (I.days - 1) (k / 3) (at_key keys.Day q) (omega (arith, h)) in
    let shift : 3 * (k / 3) + k % 3 ≡ k = omega arith in
    rw (day, type-reads I k (at_key keys.Shift q) valid, shift, rooms-read I taken k (at_key keys.Rooms q) (rooms_of I P n k) valid free) refl

pub row-reads : (I : Draft) (P : Timetable) (n : ℕ) (earlier : ℕ → Bool) (taken : ℕ → ℕ → Bool) (q : Place) → IsValid I → n < nurse_count I → earlier n ≡ false
    → ((k : ℕ) → k < shift_count I → AreFree I taken (rooms_of I P n k) k) → nurse_row I earlier taken q (nurse_data I P n) ≡ Ok (nurse_as I P n)
unfolding serde_json_on_literals nurse_row shifts_with_rooms
row-reads I P n earlier taken q valid h new free =
    let given = each-map (assignment I taken) (λ k. assignment_data I k (rooms_data I P n k)) (assignment_row I P n) (at_key keys.Assignments q) (shifts_with_rooms I P n) [] (λ p k i.
    let inside : k < shift_count I = (which_below-has (shift_count I) k _ i).0 in
    assignment-reads I P n k taken p valid inside (free k inside)) in
    rw (nurse-reads I n (at_key keys.Id q) valid h, new, same_items, given) refl
