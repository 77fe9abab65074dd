use Rattle.std.proofs.Common.{◌≡◌, ◌∙◌, ℕ, ap, refl, rules}
use Rattle.ih_tables.specs.declared.drafts.Draft.{Draft}
use Rattle.ih_tables.specs.declared.drafts.Patient.{Patient}
use Rattle.ih_plan.specs.Timetable.{Timetable, stay_of}
use Rattle.ih_plan.specs.BillOf.{bad_rooms, mandatory_left_out, outside_windows, delays, optional_left_out}
use Rattle.ih_plan.specs.Costs.{of_patient, over_patients}
use Rattle.ih_plan.specs.Sums.{sum_below}
use Rattle.ih_validate.specs.Stays.{cost_of, cost_of_stays}
use Rattle.ih_validate.specs.declared.patients.StayCost.{StayCost}
use Rattle.ih_validate.specs.declared.patients.StayCost.TheVariants.{BadRoom, MandatoryLeftOut, OutsideWindow, Delay, OptionalLeftOut}
use Rattle.ih_validate.proofs.patients.cost_of_stays.Goals as goal

over-all : (I : Draft) (P : Timetable) (cost : StayCost) → over_patients I P (cost_of cost) ≡ cost_of_stays I P cost
unfolding bad_rooms mandatory_left_out outside_windows delays optional_left_out
over-all I P BadRoom = refl
over-all I P MandatoryLeftOut = refl
over-all I P OutsideWindow = refl
over-all I P Delay = refl
over-all I P OptionalLeftOut = refl

pub returns-clause-value : goal.returns-clause-value
returns-clause-value c =
    let I = c.args.inst.now.draft in
    let P = c.args.plan.now in
    let each = λ (p : ℕ). of_patient I p (λ (a : Patient). cost_of c.args.cost a (stay_of P p)) in
    c.sum_below.ensures.sum each (search rules) ∙ (ap (λ n. sum_below n each) c.patients.ensures ∙ over-all I P c.args.cost)
