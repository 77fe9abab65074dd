-- The cells of an instance, their numbers, what a timetable has in them, and the part of the bill of each content.
use Rattle.std.specs.Prelude.{ℕ, slice_index, ◌+◌, ◌-◌, ◌*◌, ◌/◌, ◌%◌, ◌<◌, nat_lt, ◌≡◌, not, List, [], ◌∷◌, length, map, Option, Some, None, if◌then◌else◌, is_none, ◌&&◌}
use Rattle.ih_tables.specs.declared.drafts.Draft.{Draft}
use Rattle.ih_tables.specs.declared.bills.Bill.{Bill}
use Rattle.ih_tables.specs.declared.cells.Cell.{Cell}
use Rattle.ih_tables.specs.declared.cells.Cell.TheVariants.{Stay, RoomDay, TheatreDay, SurgeonDay, RoomShift, NurseShift, Care}
use Rattle.ih_tables.specs.declared.ids.PatientNo.{PatientNo}
use Rattle.ih_tables.specs.Bills.{sub_bills}
use Rattle.ih_tables.specs.Sizes.{NumberingState, sizes_of}
use Rattle.ih_tables.specs.Works.{max_load}
use Rattle.ih_plan.specs.declared.moves.Placement.{Placement}
use Rattle.ih_plan.specs.declared.moves.Write.TheVariants.{SetStay}
use Rattle.ih_plan.specs.Timetable.{Timetable, stay_of, care_of}
use Rattle.ih_plan.specs.Writes.{put}
use Rattle.ih_plan.specs.Presence.{day_of, present, shifts_of, room_of, entry_of}
use Rattle.ih_plan.specs.Persons.{person_of}
use Rattle.ih_plan.specs.Costs.{of_patient, nurse_for, in_bad_room, outside_window, delay, genders_differ, capacity_of, age_spread, operated, operated_by, minutes, surgeon_maximum, theatre_availability, theatre_of, theatres_used, not_working, is_empty, skill_missing, load_of, overload, distinct_nurses}
use Rattle.ih_plan.specs.BillOf.{Counts, as_bill, bill_of, cost_count, rule_count}
use Rattle.ih_plan.specs.Sums.{bit, sum_below, tagged}
use Rattle.ih_tables.specs.Listed.{listed}

-- ---- numbers: stays first, then room days, theatre days, surgeon days, room shifts, nurse shifts and cares, each by
-- its first index, then its second

-- where the numbers of each kind begin
abbrev pub room_days_from : NumberingState → ℕ
room_days_from z = z.patients

abbrev pub theatre_days_from : NumberingState → ℕ
theatre_days_from z = room_days_from z + z.rooms * z.days

abbrev pub surgeon_days_from : NumberingState → ℕ
surgeon_days_from z = theatre_days_from z + z.theatres * z.days

abbrev pub room_shifts_from : NumberingState → ℕ
room_shifts_from z = surgeon_days_from z + z.surgeons * z.days

abbrev pub nurse_shifts_from : NumberingState → ℕ
nurse_shifts_from z = room_shifts_from z + z.rooms * (3 * z.days)

abbrev pub cares_from : NumberingState → ℕ
cares_from z = nurse_shifts_from z + z.nurses * (3 * z.days)

-- how many cells there are
abbrev pub count_in : NumberingState → ℕ
count_in z = cares_from z + (z.patients + z.occupants)

-- the number of a cell
abbrev pub number_in : NumberingState → Cell → ℕ
number_in z (Stay p) = p.0
number_in z (RoomDay r d) = room_days_from z + r.0 * z.days + d.0
number_in z (TheatreDay t d) = theatre_days_from z + t.0 * z.days + d.0
number_in z (SurgeonDay s d) = surgeon_days_from z + s.0 * z.days + d.0
number_in z (RoomShift r k) = room_shifts_from z + r.0 * (3 * z.days) + k.0
number_in z (NurseShift n k) = nurse_shifts_from z + n.0 * (3 * z.days) + k.0
number_in z (Care x) = cares_from z + x.0

-- the cell is in range
abbrev pub IsCellIn : NumberingState → Cell → Type 0
IsCellIn z (Stay p) = p.0 < z.patients
IsCellIn z (RoomDay r d) = (r.0 < z.rooms) × (d.0 < z.days)
IsCellIn z (TheatreDay t d) = (t.0 < z.theatres) × (d.0 < z.days)
IsCellIn z (SurgeonDay s d) = (s.0 < z.surgeons) × (d.0 < z.days)
IsCellIn z (RoomShift r k) = (r.0 < z.rooms) × (k.0 < 3 * z.days)
IsCellIn z (NurseShift n k) = (n.0 < z.nurses) × (k.0 < 3 * z.days)
IsCellIn z (Care x) = x.0 < z.patients + z.occupants

-- place m in rows of d: the row and the place in it
abbrev pub in_row : {A : Type 0} → (ℕ → ℕ → A) → ℕ → ℕ → A
in_row cell m d = cell (m / d) (m % d)

-- the cell with a number
unfoldable pub cell_in : NumberingState → ℕ → Cell
cell_in z n =
    if nat_lt n (room_days_from z) then Stay (record { 0 = n })
    else if nat_lt n (theatre_days_from z) then
    in_row (λ r d. RoomDay (record { 0 = r }) (record { 0 = d })) (n - room_days_from z) z.days
    else if nat_lt n (surgeon_days_from z) then
    in_row (λ t d. TheatreDay (record { 0 = t }) (record { 0 = d })) (n - theatre_days_from z) z.days
    else if nat_lt n (room_shifts_from z) then
    in_row (λ s d. SurgeonDay (record { 0 = s }) (record { 0 = d })) (n - surgeon_days_from z) z.days
    else if nat_lt n (nurse_shifts_from z) then
    in_row (λ r k. RoomShift (record { 0 = r }) (record { 0 = k })) (n - room_shifts_from z) (3 * z.days)
    else if nat_lt n (cares_from z) then
    in_row (λ m k. NurseShift (record { 0 = m }) (record { 0 = k })) (n - nurse_shifts_from z) (3 * z.days)
    else Care (record { 0 = n - cares_from z })

-- how many cells an instance has
abbrev pub cell_count : Draft → ℕ
cell_count I = count_in (sizes_of I)

abbrev pub IsCellOf : Draft → Cell → Type 0
IsCellOf I c = IsCellIn (sizes_of I) c

abbrev pub cell_at : Draft → ℕ → Cell
cell_at I n = cell_in (sizes_of I) n

-- ---- contents

-- what a timetable has in a cell
pub data Content : Type 0 where
  -- the stay
  stay_content : Option Placement → Content
  -- the persons present, rising
  persons_content : List ℕ → Content
  -- the patients with surgery, rising
  surgeries_content : List ℕ → Content
  -- the surgeon's patients, rising, each with its theatre
  theatres_content : List (ℕ × Option ℕ) → Content
  -- the nurse, and the persons present, rising, each with its place in its vectors
  nursing_content : Option ℕ → List (ℕ × ℕ) → Content
  -- the workload in the nurse's rooms
  load_content : ℕ → Content
  -- the counted shifts of the stay, rising, each with its nurse
  care_content : List (ℕ × Option ℕ) → Content

-- what the timetable has in the cell
unfoldable pub content_of : Draft → Timetable → Cell → Content
content_of I P (Stay p) = stay_content (stay_of P p.0)
content_of I P (RoomDay r d) = persons_content (present I P r.0 d.0)
content_of I P (TheatreDay t d) = surgeries_content (operated I P t.0 d.0)
content_of I P (SurgeonDay s d) = theatres_content (tagged (theatre_of P) (operated_by I P s.0 d.0))
content_of I P (RoomShift r k) =
    nursing_content (care_of P r.0 k.0) (tagged (λ x. entry_of I P x k.0) (present I P r.0 (day_of k.0)))
content_of I P (NurseShift n k) = load_content (load_of I P n.0 k.0)
content_of I P (Care x) =
    care_content (tagged (nurse_for P (room_of I P x.0)) (shifts_of I P x.0))

-- ---- parts

-- nothing
abbrev pub no_counts : Counts
no_counts = record { v = 0 ∷ 0 ∷ 0 ∷ 0 ∷ 0 ∷ 0 ∷ 0 ∷ 0 ∷ 0 ∷ []; s = 0 ∷ 0 ∷ 0 ∷ 0 ∷ 0 ∷ 0 ∷ 0 ∷ 0 ∷ [] }

-- the part of the bill of a cell's content
unfoldable pub part_of : Draft → Cell → Content → Counts
part_of I (Stay p) (stay_content stay) = record {
  v = 0 ∷ of_patient I p.0 (λ a. bit (in_bad_room a stay)) ∷ 0 ∷ 0
      ∷ of_patient I p.0 (λ a. bit (a.mandatory && is_none stay))
      ∷ of_patient I p.0 (λ a. bit (outside_window a stay)) ∷ 0 ∷ 0 ∷ 0 ∷ [];
  s = 0 ∷ 0 ∷ 0 ∷ 0 ∷ 0 ∷ 0 ∷ of_patient I p.0 (λ a. delay a stay)
      ∷ of_patient I p.0 (λ a. bit (not a.mandatory && is_none stay)) ∷ [];
}
part_of I (RoomDay r d) (persons_content xs) = record {
  v = bit (genders_differ I xs) ∷ 0 ∷ 0 ∷ 0 ∷ 0 ∷ 0 ∷ (length xs - capacity_of I r.0) ∷ 0 ∷ 0 ∷ [];
  s = age_spread I xs ∷ 0 ∷ 0 ∷ 0 ∷ 0 ∷ 0 ∷ 0 ∷ 0 ∷ [];
}
part_of I (TheatreDay t d) (surgeries_content ps) = record {
  v = 0 ∷ 0 ∷ 0 ∷ (minutes I ps - theatre_availability I t.0 d.0) ∷ 0 ∷ 0 ∷ 0 ∷ 0 ∷ 0 ∷ [];
  s = 0 ∷ 0 ∷ 0 ∷ 0 ∷ bit (not (is_empty ps)) ∷ 0 ∷ 0 ∷ 0 ∷ [];
}
part_of I (SurgeonDay s d) (theatres_content ps) = record {
  v = 0 ∷ 0 ∷ (minutes I (map (λ p. p.0) ps) - surgeon_maximum I s.0 d.0) ∷ 0 ∷ 0 ∷ 0 ∷ 0 ∷ 0 ∷ 0 ∷ [];
  s = 0 ∷ 0 ∷ 0 ∷ 0 ∷ 0 ∷ (theatres_used I (map (λ p. p.1) ps) - 1) ∷ 0 ∷ 0 ∷ [];
}
part_of I (RoomShift r k) (nursing_content n xs) = record {
  v = 0 ∷ 0 ∷ 0 ∷ 0 ∷ 0 ∷ 0 ∷ 0 ∷ bit (not_working I k.0 n) ∷ bit (is_none n && not (is_empty xs)) ∷ [];
  s = 0 ∷ skill_missing I n (map (λ x. slice_index (person_of I x.0).skill x.1) xs) ∷ 0 ∷ 0 ∷ 0 ∷ 0 ∷ 0 ∷ 0 ∷ [];
}
part_of I (NurseShift n k) (load_content load) = record {
  v = 0 ∷ 0 ∷ 0 ∷ 0 ∷ 0 ∷ 0 ∷ 0 ∷ 0 ∷ 0 ∷ [];
  s = 0 ∷ 0 ∷ 0 ∷ overload (max_load I n.0 k.0) load ∷ 0 ∷ 0 ∷ 0 ∷ 0 ∷ [];
}
part_of I (Care x) (care_content ns) = record {
  v = 0 ∷ 0 ∷ 0 ∷ 0 ∷ 0 ∷ 0 ∷ 0 ∷ 0 ∷ 0 ∷ [];
  s = 0 ∷ 0 ∷ distinct_nurses I (map (λ n. n.1) ns) ∷ 0 ∷ 0 ∷ 0 ∷ 0 ∷ 0 ∷ [];
}
part_of I c content = no_counts

-- the part of the bill that a cell has at a timetable
abbrev pub part_at : Draft → Timetable → Cell → Counts
part_at I P c = part_of I c (content_of I P c)

-- what a cell costs once patient p has the placement, less what it costs without the patient
abbrev pub delta_at : Draft → Timetable → PatientNo → Placement → Cell → Bill
delta_at I P p at c =
    sub_bills (as_bill (part_at I (put (SetStay p (Some at)) P) c)) (as_bill (part_at I (put (SetStay p None) P) c))

-- number by number, the sum over the cells
abbrev pub sum_cells : Draft → (Cell → Counts) → Counts
sum_cells I f = record {
  v = listed 9 (λ j. sum_below (cell_count I) (λ n. rule_count j (f (cell_at I n))));
  s = listed 8 (λ j. sum_below (cell_count I) (λ n. cost_count j (f (cell_at I n))));
}

-- The law of parts: a timetable's bill is the sum of the parts of all its cells.
abbrev pub HasParts : Draft → Timetable → Type 0
HasParts I P = bill_of I P ≡ as_bill (sum_cells I (part_at I P))
