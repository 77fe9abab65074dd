-- What a ward has, by its id. In a valid instance no two patients share one, nor two rooms, theatres or nurses, so the
-- first that is found is the only one.
use Rattle.std.specs.Prelude.{ℕ, ◌-◌, nat_lt, Bool, List, [], map, Option, option_map, if◌then◌else◌, slice_get}
use Rattle.std.specs.List.{list_any}
use Rattle.std.specs.Option.{option_map_or}
use Rattle.std.specs.Str.{bytes_eq}
use Rattle.ih_tables.specs.declared.drafts.Draft.{Draft}
use Rattle.ih_tables.specs.declared.drafts.Nurse.{Nurse}
use Rattle.ih_tables.specs.declared.drafts.Occupant.{Occupant}
use Rattle.ih_tables.specs.declared.drafts.Patient.{Patient}
use Rattle.ih_tables.specs.declared.drafts.Room.{Room}
use Rattle.ih_tables.specs.declared.drafts.Theatre.{Theatre}
use Rattle.ih_tables.specs.declared.ids.NurseNo.{NurseNo}
use Rattle.ih_tables.specs.declared.ids.PatientNo.{PatientNo}
use Rattle.ih_tables.specs.declared.ids.RoomNo.{RoomNo}
use Rattle.ih_tables.specs.declared.ids.TheatreNo.{TheatreNo}
use Rattle.ih_tables.specs.Lookups.{number_in}
use Rattle.ih_tables.specs.Sizes.{patient_count}
use Rattle.ih_solution.specs.Solution.{patient_id}

-- ---- a number as that of a patient, a room, a theatre or a nurse

abbrev pub patient_no : ℕ → PatientNo
patient_no n = record { 0 = n }

abbrev pub room_no : ℕ → RoomNo
room_no n = record { 0 = n }

abbrev pub theatre_no : ℕ → TheatreNo
theatre_no n = record { 0 = n }

abbrev pub nurse_no : ℕ → NurseNo
nurse_no n = record { 0 = n }

-- ---- who and what has an id

abbrev pub patient_with : Draft → List ℕ → Option PatientNo
patient_with I id = option_map patient_no (number_in (map (λ (p : Patient). p.id) I.patients) id)

abbrev pub room_with : Draft → List ℕ → Option RoomNo
room_with I id = option_map room_no (number_in (map (λ (r : Room). r.id) I.rooms) id)

abbrev pub theatre_with : Draft → List ℕ → Option TheatreNo
theatre_with I id = option_map theatre_no (number_in (map (λ (t : Theatre). t.id) I.operating_theaters) id)

abbrev pub nurse_with : Draft → List ℕ → Option NurseNo
nurse_with I id = option_map nurse_no (number_in (map (λ (n : Nurse). n.id) I.nurses) id)

-- an occupant has the id
abbrev pub is_occupant : Draft → List ℕ → Bool
is_occupant I id = list_any (λ (o : Occupant). bytes_eq o.id id) I.occupants

-- the id of person x: of a patient, or of an occupant
unfoldable pub person_id : Draft → ℕ → List ℕ
person_id I x =
    if nat_lt x (patient_count I)
    then patient_id I x
    else option_map_or (λ (o : Occupant). o.id) (slice_get I.occupants (x - patient_count I)) []
