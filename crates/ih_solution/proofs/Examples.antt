-- The solution files of the worked examples: what is written, what other files give, and the first refusal of others.
use Rattle.std.proofs.Common.{◌≡◌, ◌++◌, refl, ℕ, List, [], Some, replicate}
use Rattle.std.specs.Prelude.{⊤, codes, Ok}
use Rattle.std.specs.Char.{encode_utf8}
use Rattle.std.specs.Str.{is_utf8, chars}
use Rattle.std.specs.Fmt.{digits}
use Rattle.serde_json.proofs.OnLiterals.{serde_json_on_literals}
use Rattle.ih_tables.specs.declared.refusals.Key.{Key}
use Rattle.ih_tables.specs.declared.refusals.Key.TheVariants as keys
use Rattle.ih_tables.specs.declared.refusals.Place.{Place}
use Rattle.ih_tables.specs.declared.refusals.Fault.TheVariants as faults
use Rattle.ih_tables.specs.Places.{whole, at_key, at_item}
use Rattle.ih_tables.specs.Lookups.{number_in}
use Rattle.ih_format.specs.Checks.{refuse, each_after}
use Rattle.ih_plan.specs.Sums.{which_below}
use Rattle.ih_plan.specs.Timetable.{Timetable, empty}
use Rattle.ih_plan.proofs.ExampleWards.{one_room, two_patients, first_admitted}
use Rattle.ih_solution.specs.Reading.{plan_in, listed_plan, patient_row, nurse_row, assignment, stays_of, cares_of}
use Rattle.ih_solution.specs.Solution.{solution, solution_data, rooms_of, shifts_with_rooms}

-- nobody is admitted, and the nurse has no room
pub empty_file : solution one_room (empty one_room) ≡ codes "{\"nurses\":[{\"assignments\":[],\"id\":\"n0\"}],\"patients\":[]}"
unfolding serde_json_on_literals digits which_below solution_data rooms_of shifts_with_rooms
empty_file = refl

-- nurse n0 has the room in all three shifts, as at the end of the smallest run
abbrev pub covered : Timetable
covered = record { stays = []; cares = replicate 3 (Some (record { 0 = 0 })); shifts = 3 }

pub covered_file : solution one_room covered
    ≡ codes "{\"nurses\":[{\"assignments\":[{\"day\":0,\"rooms\":[\"r0\"],\"shift\":\"early\"},{\"day\":0,\"rooms\":[\"r0\"],\"shift\":\"late\"},{\"day\":0,"
    ++ codes "\"rooms\":[\"r0\"],\"shift\":\"night\"}],\"id\":\"n0\"}],\"patients\":[]}"
unfolding serde_json_on_literals digits which_below solution_data rooms_of shifts_with_rooms
covered_file = refl

-- one patient is admitted, and one nurse has no room
pub admitted_file : solution two_patients first_admitted
    ≡ codes "{\"nurses\":[{\"assignments\":[{\"day\":0,\"rooms\":[\"r0\"],\"shift\":\"early\"},{\"day\":0,\"rooms\":[\"r0\"],\"shift\":\"late\"},{\"day\":0,"
    ++ codes "\"rooms\":[\"r0\"],\"shift\":\"night\"},{\"day\":1,\"rooms\":[\"r0\"],\"shift\":\"early\"},{\"day\":1,\"rooms\":[\"r0\"],\"shift\":\"late\"},{\"day\":1,"
    ++ codes "\"rooms\":[\"r0\"],\"shift\":\"night\"}],\"id\":\"n0\"},{\"assignments\":[],\"id\":\"n1\"}],"
    ++ codes "\"patients\":[{\"admission_day\":0,\"id\":\"p0\",\"operating_theater\":\"t0\",\"room\":\"r0\"},{\"admission_day\":\"none\",\"id\":\"p1\"}]}"
unfolding serde_json_on_literals digits which_below solution_data rooms_of shifts_with_rooms
admitted_file = refl

-- ---- files that are read

unfoldable reading_on_literals : ⊤
unfolding listed_plan patient_row nurse_row assignment stays_of cares_of each_after number_in digits is_utf8 chars encode_utf8
reading_on_literals = tt

-- a file in another order of its keys, with a key that isn't read
abbrev file : List ℕ → List ℕ → List ℕ
file patients nurses = codes "{\"patients\":[" ++ patients ++ codes "],\n\"costs\":[\"Cost: 159\"], \"nurses\":[" ++ nurses ++ codes "]}"

abbrev p0 : List ℕ
p0 = codes "{\"id\":\"p0\",\"admission_day\":0,\"room\":\"r0\",\"operating_theater\":\"t0\"}"

-- the place of a key of the first patient
abbrev in_first_patient : Key → Place
in_first_patient key = at_key key (at_item 0 (at_key keys.Patients whole))

-- a nurse whose first assignment has these rooms
abbrev nurse : List ℕ → List ℕ → List ℕ
nurse id rooms = codes "{\"id\":\"" ++ id ++ codes "\",\"assignments\":[{\"day\":0,\"shift\":\"early\",\"rooms\":" ++ rooms ++ codes "}]}"

-- One nurse may name the same room again, and the same shift; who isn't listed isn't admitted.
pub repeated_room : plan_in two_patients (file p0 (codes "{\"id\":\"n0\",\"assignments\":[{\"day\":0,\"shift\":\"early\",\"rooms\":[\"r0\",\"r0\"]},{\"day\":0,\"shift\":\"early\",\"rooms\":[\"r0\"]},"
    ++ codes "{\"day\":0,\"shift\":\"late\",\"rooms\":[\"r0\"]},{\"day\":0,\"shift\":\"night\",\"rooms\":[\"r0\"]},{\"day\":1,\"shift\":\"early\",\"rooms\":[\"r0\"]},"
    ++ codes "{\"day\":1,\"shift\":\"late\",\"rooms\":[\"r0\"]},{\"day\":1,\"shift\":\"night\",\"rooms\":[\"r0\"]}]}"))
    ≡ Ok first_admitted
unfolding serde_json_on_literals reading_on_literals
repeated_room = refl

-- A second nurse for one room and shift.
pub second_nurse : plan_in two_patients (file p0 (nurse (codes "n0") (codes "[\"r0\"]") ++ codes "," ++ nurse (codes "n1") (codes "[\"r0\"]")))
    ≡ refuse faults.TwoNurses (at_item 0 (at_key keys.Rooms (at_item 0 (at_key keys.Assignments (at_item 1 (at_key keys.Nurses whole))))))
unfolding serde_json_on_literals reading_on_literals
second_nurse = refl

-- A patient who is listed again.
pub patient_listed_again : plan_in two_patients (file (p0 ++ codes "," ++ p0) []) ≡ refuse faults.Duplicate (at_key keys.Id (at_item 1 (at_key keys.Patients whole)))
unfolding serde_json_on_literals reading_on_literals
patient_listed_again = refl

pub room_unknown : plan_in two_patients (file (codes "{\"id\":\"p0\",\"admission_day\":0,\"room\":\"r7\",\"operating_theater\":\"t0\"}") []) ≡ refuse faults.Unknown (in_first_patient keys.Room)
unfolding serde_json_on_literals reading_on_literals
room_unknown = refl

-- After `none` the other keys are ignored, whatever they are.
pub keys_after_none : plan_in two_patients (file (codes "{\"id\":\"p0\",\"admission_day\":\"none\",\"room\":7}") []) ≡ Ok (empty two_patients)
unfolding serde_json_on_literals reading_on_literals
keys_after_none = refl

pub other_text_for_the_day : plan_in two_patients (file (codes "{\"id\":\"p0\",\"admission_day\":\"0\"}") []) ≡ refuse faults.Kind (in_first_patient keys.AdmissionDay)
unfolding serde_json_on_literals reading_on_literals
other_text_for_the_day = refl

pub day_past_horizon : plan_in two_patients (file (codes "{\"id\":\"p0\",\"admission_day\":2}") []) ≡ refuse faults.Range (in_first_patient keys.AdmissionDay)
unfolding serde_json_on_literals reading_on_literals
day_past_horizon = refl

pub theatre_missing : plan_in two_patients (file (codes "{\"id\":\"p0\",\"admission_day\":0,\"room\":\"r0\"}") []) ≡ refuse faults.Missing (in_first_patient keys.OperatingTheater)
unfolding serde_json_on_literals reading_on_literals
theatre_missing = refl
