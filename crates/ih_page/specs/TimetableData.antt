-- A timetable and its bill as JSON values.
use Rattle.std.specs.Prelude.{ℕ, List, [], ◌∷◌, codes}
use Rattle.serde_json.specs.Data.{Data, object, no_members, member}
use Rattle.ih_tables.specs.declared.bills.Bill.{Bill}
use Rattle.ih_tables.specs.declared.bills.Weights.{Weights}
use Rattle.ih_tables.specs.declared.drafts.Draft.{Draft}
use Rattle.ih_tables.specs.Bills.{cost}
use Rattle.ih_tables.specs.Listed.{listed}
use Rattle.ih_tables.specs.Sizes.{patient_count, room_count, shift_count}
use Rattle.ih_plan.specs.declared.moves.Placement.{Placement}
use Rattle.ih_plan.specs.Timetable.{Timetable, stay_of, care_of}
use Rattle.ih_solution.specs.Solution.{number_data, list_data}
use Rattle.ih_values.specs.Values.{amount_data, amounts_data, numbers_data, option_data}

-- the day, the room and the theatre
abbrev pub place_data : Placement → Data
place_data at = numbers_data (at.day.0 ∷ at.room.0 ∷ at.theatre.0 ∷ [])

-- every patient's stay, in number order: null for a patient who isn't admitted
abbrev pub stays_data : Draft → Timetable → List Data
stays_data I P = listed (patient_count I) (λ p. option_data place_data (stay_of P p))

-- room r's nurse in each shift: null where there is none
abbrev pub nurses_data : Draft → Timetable → ℕ → List Data
nurses_data I P r = listed (shift_count I) (λ k. option_data number_data (care_of P r k))

unfoldable pub room_data : Draft → Timetable → ℕ → Data
room_data I P r = list_data (nurses_data I P r)

-- every room's nurse in each shift: null where there is none
abbrev pub care_data : Draft → Timetable → List Data
care_data I P = listed (room_count I) (room_data I P)

-- the cost, the eight costs before they are weighed, and the nine counts of broken rules
unfoldable pub bill_data : Weights → Bill → Data
bill_data w b = object
    (member (codes "cost") (amount_data (cost w b))
    (member (codes "costs") (amounts_data b.s)
    (member (codes "rules") (amounts_data b.v) no_members)))
