-- What in an instance is lawful but likely a slip: of how many things each may be, what these are called, and where it
-- is.
use Rattle.std.specs.Prelude.{ℕ, ◌==◌, ◌&&◌, ◌||◌, nat_lt, not, Bool, false, List, [], codes, length, if◌then◌else◌, slice_get}
use Rattle.std.specs.List.{list_all, list_any, range_with_len}
use Rattle.std.specs.Option.{option_map_or}
use Rattle.ih_tables.specs.declared.drafts.Draft.{Draft}
use Rattle.ih_tables.specs.declared.drafts.Nurse.{Nurse}
use Rattle.ih_tables.specs.declared.drafts.Occupant.{Occupant}
use Rattle.ih_tables.specs.declared.drafts.Patient.{Patient}
use Rattle.ih_tables.specs.declared.drafts.Surgeon.{Surgeon}
use Rattle.ih_tables.specs.declared.drafts.Theatre.{Theatre}
use Rattle.ih_tables.specs.declared.ids.RoomNo.{RoomNo}
use Rattle.ih_tables.specs.BillNumbers.{mixed_age, nurse_skill, continuity_of_care, excess_workload, open_theatre, surgeon_transfer, patient_delay}
use Rattle.ih_tables.specs.Bills.{at, is_zero}
use Rattle.ih_tables.specs.Sizes.{nurse_count, patient_count, person_count, room_count, surgeon_count, theatre_count}
use Rattle.ih_plan.specs.Costs.{capacity_of, is_empty}
use Rattle.ih_plan.specs.Persons.{person_of}
use Rattle.ih_solution.specs.Solution.{nurse_id, patient_id, room_id, theatre_id}
use Rattle.ih_warnings.specs.declared.slips.Slip.{Slip}
use Rattle.ih_warnings.specs.declared.slips.Slip.TheVariants.{RespeltAgeGroup, RespeltGender, NoWeight, IdleSurgeon, ShutTheatre, UselessRoom, IdleNurse, RoomlessPatient, EarlyPatient}
use Rattle.ih_warnings.specs.Spellings.{is_respelt}

-- ---- the things

-- of how many things it may be
abbrev pub count_of : Draft → Slip → ℕ
count_of I RespeltAgeGroup = length I.age_groups
count_of I RespeltGender = person_count I
count_of I NoWeight = 8
count_of I IdleSurgeon = surgeon_count I
count_of I ShutTheatre = theatre_count I
count_of I UselessRoom = room_count I
count_of I IdleNurse = nurse_count I
count_of I RoomlessPatient = patient_count I
count_of I EarlyPatient = patient_count I

-- what a cost is called
abbrev pub cost_name : ℕ → List ℕ
cost_name k =
    if k == mixed_age then codes "mixed ages"
    else if k == nurse_skill then codes "missing skill"
    else if k == continuity_of_care then codes "different nurses"
    else if k == excess_workload then codes "excess workload"
    else if k == open_theatre then codes "open theatres"
    else if k == surgeon_transfer then codes "surgeons' transfers"
    else if k == patient_delay then codes "waiting days"
    else codes "patients left out"

abbrev pub age_group_name : Draft → ℕ → List ℕ
age_group_name I g = option_map_or (λ (a : List ℕ). a) (slice_get I.age_groups g) []

abbrev pub gender_of : Draft → ℕ → List ℕ
gender_of I x = (person_of I x).gender

abbrev pub surgeon_id : Draft → ℕ → List ℕ
surgeon_id I s = option_map_or (λ (a : Surgeon). a.id) (slice_get I.surgeons s) []

-- what thing i is called
abbrev pub name_of : Draft → Slip → ℕ → List ℕ
name_of I RespeltAgeGroup i = age_group_name I i
name_of I RespeltGender i = gender_of I i
name_of I NoWeight i = cost_name i
name_of I IdleSurgeon i = surgeon_id I i
name_of I ShutTheatre i = theatre_id I i
name_of I UselessRoom i = room_id I i
name_of I IdleNurse i = nurse_id I i
name_of I RoomlessPatient i = patient_id I i
name_of I EarlyPatient i = patient_id I i

-- ---- what is likely a slip

-- room r is none of those that are incompatible with the patient
abbrev pub suits : Patient → ℕ → Bool
suits p r = not (list_any (λ (q : RoomNo). q.0 == r) p.incompatible_room_ids)

abbrev pub some_room_suits : Draft → Patient → Bool
some_room_suits I p = list_any (suits p) (range_with_len 0 (room_count I))

abbrev pub suits_some : Draft → ℕ → Bool
suits_some I r = list_any (λ p. suits p r) I.patients

abbrev pub has_occupant : Draft → ℕ → Bool
has_occupant I r = list_any (λ (o : Occupant). o.room_id.0 == r) I.occupants

-- room r has no occupant, and has no bed or suits no patient
abbrev pub is_useless : Draft → ℕ → Bool
is_useless I r = not (has_occupant I r) && ((capacity_of I r == 0) || not (suits_some I r))

-- the due day is before the release day
abbrev pub is_early : Patient → Bool
is_early p = option_map_or (λ due. nat_lt due p.surgery_release_day) p.surgery_due_day false

abbrev pub are_zero : List ℕ → Bool
are_zero minutes = list_all (λ m. m == 0) minutes

abbrev pub has_patient : Draft → ℕ → Bool
has_patient I s = list_any (λ (p : Patient). p.surgeon_id.0 == s) I.patients

-- surgeon s has a patient, and no minutes on any day
abbrev pub is_idle : Draft → ℕ → Bool
is_idle I s =
    has_patient I s && option_map_or (λ (a : Surgeon). are_zero a.max_surgery_time) (slice_get I.surgeons s) false

-- thing i has it
abbrev pub has_slip : Draft → Slip → ℕ → Bool
has_slip I RespeltAgeGroup i = is_respelt (name_of I RespeltAgeGroup) i
has_slip I RespeltGender i = is_respelt (name_of I RespeltGender) i
has_slip I NoWeight i = is_zero (at I.weights.w i)
has_slip I IdleSurgeon i = is_idle I i
has_slip I ShutTheatre i =
    option_map_or (λ (a : Theatre). are_zero a.availability) (slice_get I.operating_theaters i) false
has_slip I UselessRoom i = is_useless I i
has_slip I IdleNurse i = option_map_or (λ (a : Nurse). is_empty a.working_shifts) (slice_get I.nurses i) false
has_slip I RoomlessPatient i =
    option_map_or (λ (a : Patient). not (some_room_suits I a)) (slice_get I.patients i) false
has_slip I EarlyPatient i = option_map_or is_early (slice_get I.patients i) false
