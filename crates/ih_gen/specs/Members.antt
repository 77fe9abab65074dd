-- Objects that are made member by member.
use Rattle.std.specs.Prelude.{◌≡◌, ℕ, List, Result, IfOk, codes}
use Rattle.std.specs.declared.alloc.AllocError.{AllocError}
use Rattle.serde_json.specs.Data.{Data, string, object, Members, no_members, member, put}
use Rattle.serde_json.specs.View.{view}
use Rattle.serde_json.specs.declared.value.Value.{Value}
use Rattle.ih_solution.specs.Solution.{number_data, list_data}
use Rattle.ih_gen.specs.declared.persons.PersonPicks.{PersonPicks}
use Rattle.ih_gen.specs.Generated.{id_data, each_day, age_name, gender_name, age_groups_data, shift_types_data, theatre_data, surgeon_data, numbered, weights_data}

-- the value that was made, where there was memory for it, is this
abbrev pub IsMade : Data → Result Value AllocError → Type 0
IsMade d made = IfOk made (λ v. view v ≡ d)

-- the object with one member more, or in place of the one of that key; any other value as it is
abbrev pub with_member : List ℕ → Data → Data → Data
with_member key d (object ms) = object (put key d ms)
with_member key d e = e

-- what occupants and patients have alike
abbrev pub person_members : List ℕ → ℕ → PersonPicks → List Data → List Data → Members
person_members letter n a skills workloads =
    member (codes "age_group") (string (age_name a.age_group))
    (member (codes "gender") (string (gender_name a.gender))
    (member (codes "id") (id_data letter n)
    (member (codes "length_of_stay") (number_data a.length_of_stay)
    (member (codes "skill_level_required") (list_data skills)
    (member (codes "workload_produced") (list_data workloads) no_members)))))

-- a thing with an id alone
abbrev pub named_data : List ℕ → ℕ → Data
named_data letter n = object (member (codes "id") (id_data letter n) no_members)

-- a thing with an id, and with minutes under a key, as many on each day
abbrev pub minutes_data : List ℕ → List ℕ → ℕ → ℕ → ℕ → Data
minutes_data letter key minutes days n = with_member key (each_day days minutes) (named_data letter n)

-- the days and the skill levels
abbrev pub sizes_data : ℕ → Data
sizes_data days = object
    (member (codes "days") (number_data days)
    (member (codes "skill_levels") (number_data 3) no_members))

-- what all generated instances have alike
abbrev pub fixed_data : ℕ → Data
fixed_data days = object
    (member (codes "age_groups") age_groups_data
    (member (codes "days") (number_data days)
    (member (codes "operating_theaters") (numbered (theatre_data days) 5)
    (member (codes "shift_types") shift_types_data
    (member (codes "skill_levels") (number_data 3)
    (member (codes "surgeons") (numbered (surgeon_data days) 10)
    (member (codes "weights") weights_data no_members)))))))
