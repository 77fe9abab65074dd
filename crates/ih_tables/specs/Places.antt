-- Places in a file: how they are reached, and how they are printed.
use Rattle.std.specs.Prelude.{ℕ, List, [], ◌++◌, codes, decimal, Option, Some, None}
use Rattle.ih_tables.specs.declared.refusals.Place.{Place}
use Rattle.ih_tables.specs.declared.refusals.Step.{Step}
use Rattle.ih_tables.specs.declared.refusals.Refusal.{Refusal}
use Rattle.ih_tables.specs.declared.refusals.Fault.{Fault}
use Rattle.ih_tables.specs.declared.refusals.Fault.TheVariants as faults
use Rattle.ih_tables.specs.declared.refusals.Key.{Key}
use Rattle.ih_tables.specs.declared.refusals.Key.TheVariants.{Days, SkillLevels, ShiftTypes, AgeGroups, Weights, RoomMixedAge, RoomNurseSkill, ContinuityOfCare, NurseEccessiveWorkload, NurseExcessiveWorkload, OpenOperatingTheater, SurgeonTransfer, PatientDelay, UnscheduledOptional, Surgeons, Id, MaxSurgeryTime, OperatingTheaters, Availability, Rooms, Capacity, Nurses, SkillLevel, WorkingShifts, Day, Shift, MaxLoad, Occupants, Gender, AgeGroup, LengthOfStay, WorkloadProduced, SkillLevelRequired, RoomId, Patients, Mandatory, SurgeryReleaseDay, SurgeryDueDay, SurgeryDuration, SurgeonId, IncompatibleRoomIds, AdmissionDay, Room, OperatingTheater, Assignments}

-- the key, as files spell it
abbrev pub key_name : Key → List ℕ
key_name Days = codes "days"
key_name SkillLevels = codes "skill_levels"
key_name ShiftTypes = codes "shift_types"
key_name AgeGroups = codes "age_groups"
key_name Weights = codes "weights"
key_name RoomMixedAge = codes "room_mixed_age"
key_name RoomNurseSkill = codes "room_nurse_skill"
key_name ContinuityOfCare = codes "continuity_of_care"
key_name NurseEccessiveWorkload = codes "nurse_eccessive_workload"
key_name NurseExcessiveWorkload = codes "nurse_excessive_workload"
key_name OpenOperatingTheater = codes "open_operating_theater"
key_name SurgeonTransfer = codes "surgeon_transfer"
key_name PatientDelay = codes "patient_delay"
key_name UnscheduledOptional = codes "unscheduled_optional"
key_name Surgeons = codes "surgeons"
key_name Id = codes "id"
key_name MaxSurgeryTime = codes "max_surgery_time"
key_name OperatingTheaters = codes "operating_theaters"
key_name Availability = codes "availability"
key_name Rooms = codes "rooms"
key_name Capacity = codes "capacity"
key_name Nurses = codes "nurses"
key_name SkillLevel = codes "skill_level"
key_name WorkingShifts = codes "working_shifts"
key_name Day = codes "day"
key_name Shift = codes "shift"
key_name MaxLoad = codes "max_load"
key_name Occupants = codes "occupants"
key_name Gender = codes "gender"
key_name AgeGroup = codes "age_group"
key_name LengthOfStay = codes "length_of_stay"
key_name WorkloadProduced = codes "workload_produced"
key_name SkillLevelRequired = codes "skill_level_required"
key_name RoomId = codes "room_id"
key_name Patients = codes "patients"
key_name Mandatory = codes "mandatory"
key_name SurgeryReleaseDay = codes "surgery_release_day"
key_name SurgeryDueDay = codes "surgery_due_day"
key_name SurgeryDuration = codes "surgery_duration"
key_name SurgeonId = codes "surgeon_id"
key_name IncompatibleRoomIds = codes "incompatible_room_ids"
key_name AdmissionDay = codes "admission_day"
key_name Room = codes "room"
key_name OperatingTheater = codes "operating_theater"
key_name Assignments = codes "assignments"

-- the whole file
abbrev pub whole : Place
whole = record { section = None; first = None; second = None; last = None }

abbrev pub below : Key → Place → Option Key → Option Step → Place
below k p None first = record p { section = Some k }
below k p (Some s) None = record p { first = Some (record { at = p.last; key = k }); last = None }
below k p (Some s) (Some f) = record p { second = Some (record { at = p.last; key = k }); last = None }

-- the place of a key, below a place
abbrev pub at_key : Key → Place → Place
at_key k p = below k p p.section p.first

-- the place of an item, below a list's
abbrev pub at_item : ℕ → Place → Place
at_item i p = record p { last = Some i }

abbrev pub item_text : Option ℕ → List ℕ
item_text None = []
item_text (Some i) = codes "[" ++ decimal i ++ codes "]"

abbrev pub key_text : Key → List ℕ
key_text k = codes "." ++ key_name k

abbrev pub section_text : Option Key → List ℕ
section_text None = []
section_text (Some k) = key_text k

abbrev pub step_text : Option Step → List ℕ
step_text None = []
step_text (Some s) = item_text s.at ++ key_text s.key

-- a place, as it is printed
unfoldable pub place_text : Place → List ℕ
place_text p = codes "$" ++ section_text p.section ++ step_text p.first ++ step_text p.second ++ item_text p.last

-- a fault's name, as it is printed
abbrev pub fault_name : Fault → List ℕ
fault_name faults.NotJson = codes "NotJson"
fault_name faults.Missing = codes "Missing"
fault_name faults.Kind = codes "Kind"
fault_name faults.Range = codes "Range"
fault_name faults.Length = codes "Length"
fault_name faults.Duplicate = codes "Duplicate"
fault_name faults.Unknown = codes "Unknown"
fault_name faults.TwoWeights = codes "TwoWeights"
fault_name faults.TwoNurses = codes "TwoNurses"

-- a refusal, as it is printed: the fault and its place
unfoldable pub refusal_text : Refusal → List ℕ
refusal_text r = fault_name r.fault ++ codes " at " ++ place_text r.at
