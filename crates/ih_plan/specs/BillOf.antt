-- The seventeen numbers of a timetable's bill, each a sum over the whole timetable.
use Rattle.std.specs.Prelude.{ℕ, ◌-◌, pos, ◌&&◌, not, List, [], ◌∷◌, length, is_none, map, slice_index}
use Rattle.ih_tables.specs.declared.drafts.Draft.{Draft}
use Rattle.ih_tables.specs.declared.bills.Bill.{Bill}
use Rattle.ih_tables.specs.Sizes.{person_count, theatre_count, surgeon_count, nurse_count, shift_count}
use Rattle.ih_tables.specs.Works.{max_load}
use Rattle.ih_tables.specs.Bills.{sub_bills}
use Rattle.ih_plan.specs.Timetable.{Timetable}
use Rattle.ih_plan.specs.Presence.{shifts_of, room_of, skill_of}
use Rattle.ih_plan.specs.Sums.{sum_below, count_below, bit}
use Rattle.ih_plan.specs.Costs.{over_patients, in_bad_room, outside_window, delay, over_room_days, genders_differ, capacity_of, age_spread, operated, operated_by, minutes, surgeon_maximum, theatre_availability, theatre_of, theatres_used, over_room_shifts, not_working, is_empty, skill_missing, load_of, overload, nurse_for, distinct_nurses}

-- A bill's numbers where none is negative, as the bill of a timetable and of each of its parts.
pub record Counts : Type 0 where
  pub v : List ℕ
  pub s : List ℕ

-- number j of the broken rules
abbrev pub rule_count : ℕ → Counts → ℕ
rule_count j c = slice_index c.v j

-- number j of the costs
abbrev pub cost_count : ℕ → Counts → ℕ
cost_count j c = slice_index c.s j

-- the bill of these numbers
abbrev pub as_bill : Counts → Bill
as_bill c = record { v = map pos c.v; s = map pos c.s }

-- rooms and days with two genders
unfoldable pub gender_mixes : Draft → Timetable → ℕ
gender_mixes I P = over_room_days I P (λ r xs. bit (genders_differ I xs))

-- patients in a room that is incompatible
unfoldable pub bad_rooms : Draft → Timetable → ℕ
bad_rooms I P = over_patients I P (λ p stay. bit (in_bad_room p stay))

-- minutes of surgery above each surgeon's maximum of a day
unfoldable pub surgeon_overtime : Draft → Timetable → ℕ
surgeon_overtime I P =
    sum_below (surgeon_count I) (λ s. sum_below I.days (λ d. minutes I (operated_by I P s d) - surgeon_maximum I s d))

-- minutes of surgery above each theatre's availability of a day
unfoldable pub theatre_overtime : Draft → Timetable → ℕ
theatre_overtime I P =
    sum_below (theatre_count I) (λ t. sum_below I.days (λ d. minutes I (operated I P t d) - theatre_availability I t d))

-- mandatory patients who aren't admitted
unfoldable pub mandatory_left_out : Draft → Timetable → ℕ
mandatory_left_out I P = over_patients I P (λ p stay. bit (p.mandatory && is_none stay))

-- patients admitted before their release day or after their due day
unfoldable pub outside_windows : Draft → Timetable → ℕ
outside_windows I P = over_patients I P (λ p stay. bit (outside_window p stay))

-- persons above each room's capacity of a day
unfoldable pub over_capacity : Draft → Timetable → ℕ
over_capacity I P = over_room_days I P (λ r xs. length xs - capacity_of I r)

-- rooms and shifts with a nurse who doesn't work the shift
unfoldable pub nurses_off : Draft → Timetable → ℕ
nurses_off I P = over_room_shifts I P (λ k n xs. bit (not_working I k n))

-- occupied rooms and shifts without a nurse
unfoldable pub uncovered : Draft → Timetable → ℕ
uncovered I P = over_room_shifts I P (λ k n xs. bit (is_none n && not (is_empty xs)))

-- oldest minus youngest age group, by room and day
unfoldable pub mixed_ages : Draft → Timetable → ℕ
mixed_ages I P = over_room_days I P (λ r xs. age_spread I xs)

-- required skill above the nurse's, for each person of each room and shift
unfoldable pub missing_skill : Draft → Timetable → ℕ
missing_skill I P = over_room_shifts I P (λ k n xs. skill_missing I n (map (skill_of I P k) xs))

-- different nurses each person sees
unfoldable pub nurses_seen : Draft → Timetable → ℕ
nurses_seen I P =
    sum_below (person_count I) (λ x. distinct_nurses I (map (nurse_for P (room_of I P x)) (shifts_of I P x)))

-- workload above the maximum of each nurse and worked shift
unfoldable pub overloads : Draft → Timetable → ℕ
overloads I P =
    sum_below (nurse_count I) (λ n. sum_below (shift_count I) (λ k. overload (max_load I n k) (load_of I P n k)))

-- theatres and days with surgery
unfoldable pub open_theatres : Draft → Timetable → ℕ
open_theatres I P =
    sum_below (theatre_count I) (λ t. count_below I.days (λ d. not (is_empty (operated I P t d))))

-- for each surgeon and day with surgery, the distinct theatres less one
unfoldable pub transfers : Draft → Timetable → ℕ
transfers I P =
    sum_below (surgeon_count I) (λ s. sum_below I.days
    (λ d. theatres_used I (map (theatre_of P) (operated_by I P s d)) - 1))

-- days between release and admission
unfoldable pub delays : Draft → Timetable → ℕ
delays I P = over_patients I P delay

-- optional patients who aren't admitted
unfoldable pub optional_left_out : Draft → Timetable → ℕ
optional_left_out I P = over_patients I P (λ p stay. bit (not p.mandatory && is_none stay))

-- the counts of broken rules
abbrev pub broken_rules : Draft → Timetable → List ℕ
broken_rules I P =
    gender_mixes I P ∷ bad_rooms I P ∷ surgeon_overtime I P ∷ theatre_overtime I P ∷ mandatory_left_out I P
    ∷ outside_windows I P ∷ over_capacity I P ∷ nurses_off I P ∷ uncovered I P ∷ []

-- the costs, unweighted
abbrev pub soft_costs : Draft → Timetable → List ℕ
soft_costs I P =
    mixed_ages I P ∷ missing_skill I P ∷ nurses_seen I P ∷ overloads I P ∷ open_theatres I P
    ∷ transfers I P ∷ delays I P ∷ optional_left_out I P ∷ []

-- the seventeen numbers
abbrev pub counts_of : Draft → Timetable → Counts
counts_of I P = record { v = broken_rules I P; s = soft_costs I P }

-- the bill of a timetable
unfoldable pub bill_of : Draft → Timetable → Bill
bill_of I P = as_bill (counts_of I P)

-- the bill of the second timetable less that of the first
abbrev pub change_of_bill : Draft → Timetable → Timetable → Bill
change_of_bill I P Q = sub_bills (bill_of I Q) (bill_of I P)
