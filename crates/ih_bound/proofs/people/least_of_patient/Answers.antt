use Rattle.std.proofs.Common.{◌≡◌, ◌≤◌, refl, arith, Option, Some, None}
use Rattle.ih_plan.specs.declared.moves.Placement.{Placement}
use Rattle.ih_plan.specs.Timetable.{stay_of}
use Rattle.ih_bound.specs.Tariffs.{tariff_of}
use Rattle.ih_bound.specs.Paid.{paid}
use Rattle.ih_bound.proofs.people.least_of_patient.Goals as goal

pub returns : goal.returns
returns c = λ P feasible.
    let t = tariff_of c.args.inst.now.draft c.args.rates.now c.args.prices.now in
    let by_case : (o : Option Placement) → stay_of P c.args.patient.0 ≡ o → c.least_admitted-least.result ≤ paid c.args.inst.now.draft c.args.rates.now t P c.args.patient.0 = λ o is.
    elim o as (λ o. stay_of P c.args.patient.0 ≡ o → c.least_admitted-least.result ≤ paid c.args.inst.now.draft c.args.rates.now t P c.args.patient.0) [
      | None ↦ λ none. omega (arith, c.left_out_cost-most.ensures P t feasible none, c.least_admitted-least.ensures.no_more)
      | Some at ↦ λ is. c.least_admitted-least.ensures.admitted P at feasible is (feasible.plan.placed c.args.patient.0 at is).day
    ] is in
    by_case (stay_of P c.args.patient.0) refl
