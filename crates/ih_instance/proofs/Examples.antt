-- The definition computed on small files: what is accepted, and the first refusal of others.
use Rattle.std.proofs.Common.{◌≡◌, List, ℕ, ◌++◌, refl, true}
use Rattle.std.specs.Prelude.{⊤, codes, is_ok}
use Rattle.std.specs.Fmt.{digits}
use Rattle.std.specs.Char.{encode_utf8}
use Rattle.std.specs.Str.{is_utf8, chars}
use Rattle.serde_json.proofs.OnLiterals.{serde_json_on_literals}
use Rattle.ih_tables.specs.declared.refusals.Key.TheVariants as keys
use Rattle.ih_tables.specs.declared.refusals.Fault.TheVariants as faults
use Rattle.ih_tables.specs.Places.{whole, at_key, at_item, place_text}
use Rattle.ih_tables.specs.Lookups.{number_in}
use Rattle.ih_format.specs.Checks.{refuse, each_after}
use Rattle.ih_instance.specs.Instance.{instance, draft, weights, surgeon, theatre, room, worked, nurse, occupant, patient}

unfoldable pub instance_on_literals : ⊤
unfolding draft weights surgeon theatre room worked nurse occupant patient each_after number_in digits is_utf8 chars encode_utf8 place_text
instance_on_literals = tt

-- the smallest instance, with some parts to choose
abbrev smallest : List ℕ → List ℕ → List ℕ → List ℕ → List ℕ
smallest days weight stay rooms = codes "{\"days\":" ++ days
    ++ codes ",\"skill_levels\":3,\"shift_types\":[\"early\",\"late\",\"night\"],\n\"age_groups\":[\"child\",\"adult\",\"old\"],\n"
    ++ codes "\"weights\":{\"room_mixed_age\":5,\"room_nurse_skill\":10,\"continuity_of_care\":2,\n" ++ weight
    ++ codes "\"open_operating_theater\":30,\"surgeon_transfer\":7,\n\"patient_delay\":4,\"unscheduled_optional\":100},\n\"occupants\":["
    ++ codes "{\"id\":\"a0\",\"gender\":\"A\",\"age_group\":\"adult\",\"length_of_stay\":" ++ stay
    ++ codes ",\n\"workload_produced\":[2,1,1],\"skill_level_required\":[1,0,2],\"room_id\":\"r0\"}],\n\"patients\":[],\"surgeons\":[],\"operating_theaters\":[],\n" ++ rooms
    ++ codes "\"nurses\":[{\"id\":\"n0\",\"skill_level\":1,\"working_shifts\":[\n{\"day\":0,\"shift\":\"early\",\"max_load\":2},{\"day\":0,\"shift\":\"late\",\"max_load\":2},\n"
    ++ codes "{\"day\":0,\"shift\":\"night\",\"max_load\":2}]}]}"

abbrev one_weight : List ℕ
one_weight = codes "\"nurse_eccessive_workload\":1,"

abbrev one_room : List ℕ
one_room = codes "\"rooms\":[{\"id\":\"r0\",\"capacity\":2}],\n"

pub smallest_accepted : is_ok (instance (smallest (codes "1") one_weight (codes "1") one_room)) ≡ true
unfolding serde_json_on_literals instance_on_literals
smallest_accepted = refl

pub rooms_missing : instance (smallest (codes "1") one_weight (codes "1") (codes "")) ≡ refuse faults.Missing (at_key keys.Rooms whole)
unfolding serde_json_on_literals instance_on_literals
rooms_missing = refl

pub days_zero : instance (smallest (codes "0") one_weight (codes "1") one_room) ≡ refuse faults.Range (at_key keys.Days whole)
unfolding serde_json_on_literals instance_on_literals
days_zero = refl

pub days_before_rooms : instance (smallest (codes "0") one_weight (codes "1") (codes "")) ≡ refuse faults.Range (at_key keys.Days whole)
unfolding serde_json_on_literals instance_on_literals
days_before_rooms = refl

pub stay_zero : instance (smallest (codes "1") one_weight (codes "0") one_room) ≡ refuse faults.Range (at_key keys.LengthOfStay (at_item 0 (at_key keys.Occupants whole)))
unfolding serde_json_on_literals instance_on_literals
stay_zero = refl

pub rooms_empty : instance (smallest (codes "1") one_weight (codes "1") (codes "\"rooms\":[],")) ≡ refuse faults.Length (at_key keys.Rooms whole)
unfolding serde_json_on_literals instance_on_literals
rooms_empty = refl

pub other_spelling : is_ok (instance (smallest (codes "1") (codes "\"nurse_excessive_workload\":1,") (codes "1") one_room)) ≡ true
unfolding serde_json_on_literals instance_on_literals
other_spelling = refl

pub file_empty : instance (codes "") ≡ refuse faults.NotJson whole
unfolding serde_json_on_literals instance_on_literals
file_empty = refl

pub weight_spelled_twice : instance (smallest (codes "1") (codes "\"nurse_eccessive_workload\":1,\"nurse_excessive_workload\":1,") (codes "1") one_room)
    ≡ refuse faults.TwoWeights (at_key keys.Weights whole)
unfolding serde_json_on_literals instance_on_literals
weight_spelled_twice = refl

pub weight_missing : instance (smallest (codes "1") (codes "") (codes "1") one_room) ≡ refuse faults.Missing (at_key keys.NurseEccessiveWorkload (at_key keys.Weights whole))
unfolding serde_json_on_literals instance_on_literals
weight_missing = refl

pub other_spelling_negative : instance (smallest (codes "1") (codes "\"nurse_excessive_workload\":-1,") (codes "1") one_room)
    ≡ refuse faults.Kind (at_key keys.NurseExcessiveWorkload (at_key keys.Weights whole))
unfolding serde_json_on_literals instance_on_literals
other_spelling_negative = refl

pub place_of_assigned_room : place_text (at_item 0 (at_key keys.Rooms (at_item 0 (at_key keys.Assignments (at_item 1 (at_key keys.Nurses whole)))))) ≡ codes "$.nurses[1].assignments[0].rooms[0]"
unfolding instance_on_literals
place_of_assigned_room = refl

pub place_of_worked_day : place_text (at_key keys.Day (at_item 2 (at_key keys.WorkingShifts (at_item 0 (at_key keys.Nurses whole))))) ≡ codes "$.nurses[0].working_shifts[2].day"
unfolding instance_on_literals
place_of_worked_day = refl

-- a larger instance, in which a patient's stay passes the horizon, with that patient's workload to choose
abbrev larger : List ℕ → List ℕ
larger work = codes "{\"days\":2,\"skill_levels\":3,\"shift_types\":[\"early\",\"late\",\"night\"],\"age_groups\":[\"child\",\"adult\",\"old\"],"
    ++ codes "\"weights\":{\"room_mixed_age\":5,\"room_nurse_skill\":10,\"continuity_of_care\":2,\"nurse_eccessive_workload\":1,"
    ++ codes "\"open_operating_theater\":30,\"surgeon_transfer\":7,\"patient_delay\":4,\"unscheduled_optional\":100},\"occupants\":["
    ++ codes "{\"id\":\"a0\",\"gender\":\"A\",\"age_group\":\"adult\",\"length_of_stay\":1,\"workload_produced\":[1,1,1],\"skill_level_required\":[0,0,2],\"room_id\":\"r0\"}],"
    ++ codes "\"patients\":[{\"id\":\"p0\",\"mandatory\":true,\"gender\":\"A\",\"age_group\":\"old\",\"length_of_stay\":5,"
    ++ codes "\"surgery_release_day\":0,\"surgery_due_day\":1,\"surgery_duration\":60,\"surgeon_id\":\"s0\",\"incompatible_room_ids\":[\"r1\"],\"workload_produced\":" ++ work
    ++ codes ",\"skill_level_required\":[0,0,0,0,0,0]},{\"id\":\"p1\",\"mandatory\":false,\"gender\":\"B\",\"age_group\":\"child\",\"length_of_stay\":1,"
    ++ codes "\"surgery_release_day\":0,\"surgery_duration\":40,\"surgeon_id\":\"s0\",\"incompatible_room_ids\":[],"
    ++ codes "\"workload_produced\":[1,1,1],\"skill_level_required\":[2,2,2]}],\"surgeons\":[{\"id\":\"s0\",\"max_surgery_time\":[100,100]}],\"operating_theaters\":["
    ++ codes "{\"id\":\"t0\",\"availability\":[60,60]},{\"id\":\"t1\",\"availability\":[60,60]}],\"rooms\":[{\"id\":\"r0\",\"capacity\":2},{\"id\":\"r1\",\"capacity\":1}],"
    ++ codes "\"nurses\":[{\"id\":\"n0\",\"skill_level\":0,\"working_shifts\":[{\"day\":0,\"shift\":\"early\",\"max_load\":3},{\"day\":0,\"shift\":\"late\",\"max_load\":3},"
    ++ codes "{\"day\":0,\"shift\":\"night\",\"max_load\":3},{\"day\":1,\"shift\":\"early\",\"max_load\":3},{\"day\":1,\"shift\":\"late\",\"max_load\":3},"
    ++ codes "{\"day\":1,\"shift\":\"night\",\"max_load\":3}]},{\"id\":\"n1\",\"skill_level\":2,\"working_shifts\":[{\"day\":0,\"shift\":\"early\",\"max_load\":10},"
    ++ codes "{\"day\":0,\"shift\":\"late\",\"max_load\":10},{\"day\":0,\"shift\":\"night\",\"max_load\":10},{\"day\":1,\"shift\":\"early\",\"max_load\":10},"
    ++ codes "{\"day\":1,\"shift\":\"late\",\"max_load\":10},{\"day\":1,\"shift\":\"night\",\"max_load\":10}]}]}"

pub stay_past_horizon : is_ok (instance (larger (codes "[2,2,2,2,2,2]"))) ≡ true
unfolding serde_json_on_literals instance_on_literals
stay_past_horizon = refl

pub too_few_entries : instance (larger (codes "[2,2,2,2,2]")) ≡ refuse faults.Length (at_key keys.WorkloadProduced (at_item 0 (at_key keys.Patients whole)))
unfolding serde_json_on_literals instance_on_literals
too_few_entries = refl
