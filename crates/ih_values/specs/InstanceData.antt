-- An instance as JSON values. Rooms, surgeons and age groups stand by their numbers, which are their places in the lists.
use Rattle.std.specs.Prelude.{ℕ, List, [], ◌∷◌, codes, map}
use Rattle.serde_json.specs.Data.{Data, boolean, string, object, no_members, member}
use Rattle.ih_tables.specs.declared.drafts.Draft.{Draft}
use Rattle.ih_tables.specs.declared.drafts.Room.{Room}
use Rattle.ih_tables.specs.declared.drafts.Theatre.{Theatre}
use Rattle.ih_tables.specs.declared.drafts.Surgeon.{Surgeon}
use Rattle.ih_tables.specs.declared.drafts.WorkedShift.{WorkedShift}
use Rattle.ih_tables.specs.declared.drafts.Nurse.{Nurse}
use Rattle.ih_tables.specs.declared.drafts.Occupant.{Occupant}
use Rattle.ih_tables.specs.declared.drafts.Patient.{Patient}
use Rattle.ih_tables.specs.declared.ids.RoomNo.{RoomNo}
use Rattle.ih_solution.specs.Solution.{number_data, list_data}
use Rattle.ih_values.specs.Values.{numbers_data, amounts_data, option_data}

-- ---- rooms, operating theatres, surgeons and nurses

abbrev pub room_data : Room → Data
room_data r = object
    (member (codes "capacity") (number_data r.capacity)
    (member (codes "id") (string r.id) no_members))

-- with the available minutes of each day
abbrev pub theatre_data : Theatre → Data
theatre_data t = object
    (member (codes "id") (string t.id)
    (member (codes "minutes") (numbers_data t.availability) no_members))

-- with the most minutes of each day
abbrev pub surgeon_data : Surgeon → Data
surgeon_data s = object
    (member (codes "id") (string s.id)
    (member (codes "minutes") (numbers_data s.max_surgery_time) no_members))

-- the day, the number of the shift type and the maximum workload
abbrev pub worked_data : WorkedShift → Data
worked_data w = numbers_data (w.day.0 ∷ w.shift ∷ w.max_load ∷ [])

abbrev pub nurse_data : Nurse → Data
nurse_data n = object
    (member (codes "id") (string n.id)
    (member (codes "shifts") (list_data (map worked_data n.working_shifts))
    (member (codes "skill") (number_data n.skill_level) no_members)))

-- ---- persons

-- what patients and occupants have alike, with workload and skill for each shift of the stay
unfoldable pub person_data : (age : ℕ) (gender id loads skills : List ℕ) (stay : ℕ) → Data
person_data age gender id loads skills stay = object
    (member (codes "age") (number_data age)
    (member (codes "gender") (string gender)
    (member (codes "id") (string id)
    (member (codes "loads") (numbers_data loads)
    (member (codes "skills") (numbers_data skills)
    (member (codes "stay") (number_data stay) no_members))))))

abbrev pub occupant_data : Occupant → Data
occupant_data o = object
    (member (codes "person")
    (person_data o.age_group o.gender o.id o.workload_produced o.skill_level_required o.length_of_stay)
    (member (codes "room") (number_data o.room_id.0) no_members))

-- the first and the last day of a patient's window, and whether the patient must be admitted: null stands for no last day
unfoldable pub window_data : Patient → Data
window_data p = object
    (member (codes "due") (option_data number_data p.surgery_due_day)
    (member (codes "mandatory") (boolean p.mandatory)
    (member (codes "release") (number_data p.surgery_release_day) no_members)))

-- with the minutes of surgery and the rooms that aren't suitable
abbrev pub patient_data : Patient → Data
patient_data p = object
    (member (codes "minutes") (number_data p.surgery_duration)
    (member (codes "person")
    (person_data p.age_group p.gender p.id p.workload_produced p.skill_level_required p.length_of_stay)
    (member (codes "surgeon") (number_data p.surgeon_id.0)
    (member (codes "unsuited") (list_data (map (λ (r : RoomNo). number_data r.0) p.incompatible_room_ids))
    (member (codes "window") (window_data p) no_members)))))

-- ---- the whole

unfoldable pub persons_data : Draft → Data
persons_data I = object
    (member (codes "occupants") (list_data (map occupant_data I.occupants))
    (member (codes "patients") (list_data (map patient_data I.patients)) no_members))

unfoldable pub places_data : Draft → Data
places_data I = object
    (member (codes "rooms") (list_data (map room_data I.rooms))
    (member (codes "theatres") (list_data (map theatre_data I.operating_theaters)) no_members))

unfoldable pub staff_data : Draft → Data
staff_data I = object
    (member (codes "nurses") (list_data (map nurse_data I.nurses))
    (member (codes "surgeons") (list_data (map surgeon_data I.surgeons)) no_members))

-- with the names of age groups and of shift types, and the weights of the costs
unfoldable pub instance_data : Draft → Data
instance_data I = object
    (member (codes "ages") (list_data (map string I.age_groups))
    (member (codes "days") (number_data I.days)
    (member (codes "persons") (persons_data I)
    (member (codes "places") (places_data I)
    (member (codes "shifts") (list_data (map string I.shift_types))
    (member (codes "staff") (staff_data I)
    (member (codes "weights") (amounts_data I.weights.w) no_members)))))))
