-- The filled timetable of the larger example, computed.
use Rattle.std.proofs.Common.{◌≡◌, refl, Some, None, [], ◌∷◌, pos, negsuc, ℕ, ℤ}
use Rattle.ih_tables.specs.Bills.{cost}
use Rattle.ih_plan.specs.Timetable.{empty, Timetable}
use Rattle.ih_plan.specs.BillOf.{bill_of}
use Rattle.ih_fill.specs.Fill.{fill, with_choice, write_score, without_uncovered}
use Rattle.ih_plan.specs.declared.moves.Placement.{Placement}
use Rattle.ih_plan.specs.declared.moves.Write.TheVariants.{SetStay}
use Rattle.ih_plan.proofs.ExampleWards.{two_patients, at, bill9, weights}
use Rattle.ih_plan.proofs.BillExamples.{plan_on_literals}

abbrev pub filled : Timetable
filled = record {
  stays = Some (at 1 0 0) ∷ Some (at 0 1 0) ∷ [];
  cares = Some (record { 0 = 0 }) ∷ Some (record { 0 = 0 }) ∷ Some (record { 0 = 1 }) ∷ Some (record { 0 = 0 }) ∷ Some (record { 0 = 0 }) ∷ Some (record { 0 = 0 })
      ∷ Some (record { 0 = 1 }) ∷ Some (record { 0 = 1 }) ∷ Some (record { 0 = 1 }) ∷ None ∷ None ∷ None ∷ [];
  shifts = 6;
}

-- the value of a stay for a patient, where nurses don't count yet
abbrev pub stay_value : Timetable → ℕ → Placement → ℤ
stay_value P p at = write_score two_patients 1000 without_uncovered P (SetStay (record { 0 = p }) (Some at))

-- Two theatres on one day cost more than a day of delay.
pub first_patient_values : (stay_value (empty two_patients) 0 (at 1 0 0) ≡ negsuc 965) × (stay_value (empty two_patients) 0 (at 0 0 0) ≡ negsuc 964)
unfolding plan_on_literals
first_patient_values = (refl, refl)

pub second_patient_value : stay_value (record (empty two_patients) { stays = Some (at 1 0 0) ∷ None ∷ [] }) 1 (at 0 1 0) ≡ negsuc 69
unfolding plan_on_literals
second_patient_value = refl

pub example_filled : fill two_patients 1000 (empty two_patients) ≡ filled
unfolding plan_on_literals fill with_choice
example_filled = refl

pub filled_bill : bill_of two_patients filled ≡ bill9 0 0 0 0 0 0 0 0 0 0 0 4 0 2 0 1 0
unfolding plan_on_literals
filled_bill = refl

pub filled_cost : cost weights (bill_of two_patients filled) ≡ pos 72
unfolding plan_on_literals
filled_cost = refl
