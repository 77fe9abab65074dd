-- The bills of small timetables, computed from the definitions.
use Rattle.std.proofs.Common.{◌≡◌, ℕ, refl, pos, Some}
use Rattle.std.specs.Prelude.{⊤}
use Rattle.ih_tables.specs.declared.bills.Bill.{Bill}
use Rattle.ih_tables.specs.Bills.{cost, signed_sum}
use Rattle.ih_plan.specs.Sums.{sum_below, which_below, greatest, least}
use Rattle.ih_plan.specs.Persons.{person_of}
use Rattle.ih_plan.specs.Presence.{admission_of, present, shifts_of, entry_of}
use Rattle.ih_plan.specs.Costs.{operated, operated_by, load_of}
use Rattle.ih_plan.specs.BillOf.{bill_of, gender_mixes, bad_rooms, surgeon_overtime, theatre_overtime, mandatory_left_out, outside_windows, over_capacity, nurses_off, uncovered, mixed_ages, missing_skill, nurses_seen, overloads, open_theatres, transfers, delays, optional_left_out}
use Rattle.ih_plan.proofs.ExampleWards.{two_patients, two_patients_with, first_admitted, first_admitted_with, at, bill9, weights}

unfoldable pub plan_on_literals : ⊤
unfolding signed_sum sum_below which_below greatest least person_of admission_of present shifts_of entry_of
    operated operated_by load_of bill_of gender_mixes bad_rooms surgeon_overtime theatre_overtime mandatory_left_out outside_windows over_capacity nurses_off uncovered
    mixed_ages missing_skill nurses_seen overloads open_theatres transfers delays optional_left_out
plan_on_literals = tt

-- One patient is admitted, and one nurse has the room: no rule is broken.
pub example : (bill_of two_patients first_admitted ≡ bill9 0 0 0 0 0 0 0 0 0 1 2 2 0 1 0 0 1) × (cost weights (bill_of two_patients first_admitted) ≡ pos 159)
unfolding plan_on_literals
example = (refl, refl)

-- The surgery takes one minute more than its theatre has.
pub longer_surgery : bill_of (two_patients_with 61) first_admitted ≡ bill9 0 0 0 1 0 0 0 0 0 1 2 2 0 1 0 0 1
unfolding plan_on_literals
longer_surgery = refl

-- The second patient is admitted too.
abbrev both_at : ℕ → ℕ → ℕ → Bill
both_at d r t = bill_of two_patients (first_admitted_with (Some (at d r t)))

-- It is of the other gender, on the same day and in the same room, in the other theatre; and the same a day later,
-- where the two stays have that day alone in common.
pub shared_room : (both_at 0 0 1 ≡ bill9 1 0 0 0 0 0 1 0 0 2 8 3 3 2 1 0 0) × (cost weights (both_at 0 0 1) ≡ pos 166)
    × (both_at 1 0 1 ≡ bill9 1 0 0 0 0 0 0 0 0 3 8 3 0 2 0 1 0) × (cost weights (both_at 1 0 1) ≡ pos 165)
unfolding plan_on_literals
shared_room = (refl, refl, refl, refl)

-- Both are in one theatre, which is too full, and the second in a room without nurses.
pub shared_theatre : both_at 0 1 0 ≡ bill9 0 0 0 40 0 0 0 0 3 1 2 2 0 1 0 0 0
unfolding plan_on_literals
shared_theatre = refl
