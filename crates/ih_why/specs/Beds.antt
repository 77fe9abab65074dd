-- The occupants who are in a room on a day: whom they leave a bed for, and what they break whatever the timetable.
use Rattle.std.specs.Prelude.{ℕ, ◌==◌, ◌&&◌, nat_lt, not, Bool, List, filter, length}
use Rattle.std.specs.List.{list_any}
use Rattle.std.specs.Str.{bytes_eq}
use Rattle.ih_tables.specs.declared.drafts.Draft.{Draft}
use Rattle.ih_tables.specs.declared.drafts.Occupant.{Occupant}
use Rattle.ih_tables.specs.Works.{working}
use Rattle.ih_plan.specs.Costs.{capacity_of, is_empty}
use Rattle.ih_plan.specs.Presence.{day_of}

-- the occupant is in room r on day d
abbrev pub lies_in : ℕ → ℕ → Occupant → Bool
lies_in r d o = (o.room_id.0 == r) && nat_lt d o.length_of_stay

-- room r has an occupant on day d
abbrev pub is_occupied : Draft → ℕ → ℕ → Bool
is_occupied I r d = list_any (lies_in r d) I.occupants

-- how many it has
abbrev pub occupants_in : Draft → ℕ → ℕ → ℕ
occupants_in I r d = length (filter (lies_in r d) I.occupants)

-- one of them has another gender than this
abbrev pub has_other : Draft → ℕ → ℕ → List ℕ → Bool
has_other I r d gender = list_any (λ o. lies_in r d o && not (bytes_eq gender o.gender)) I.occupants

-- room r has a bed on day d for someone of this gender
abbrev pub has_bed : Draft → ℕ → List ℕ → ℕ → Bool
has_bed I r gender d = nat_lt (occupants_in I r d) (capacity_of I r) && not (has_other I r d gender)

-- ---- what breaks a rule in each timetable

-- room r has more occupants on day d than it is for
abbrev pub is_crowded : Draft → ℕ → ℕ → Bool
is_crowded I r d = nat_lt (capacity_of I r) (occupants_in I r d)

-- room r has occupants of two genders on day d
abbrev pub is_mixed : Draft → ℕ → ℕ → Bool
is_mixed I r d = list_any (λ o. lies_in r d o && has_other I r d o.gender) I.occupants

-- room r has an occupant in shift k, and no nurse works then
abbrev pub is_deserted : Draft → ℕ → ℕ → Bool
is_deserted I r k = is_empty (working I k) && is_occupied I r (day_of k)
