use Rattle.std.proofs.Common.{arith}
use Rattle.ih_bound.specs.Tariffs.{tariff_of}
use Rattle.ih_bound.proofs.DealtLemmas.{floor-at}
use Rattle.ih_bound.proofs.people.Case.lower_by.Goals as goal

pub returns-then-saturating_add-so_far-clause-day : goal.returns-then-saturating_add-so_far-clause-day
returns-then-saturating_add-so_far-clause-day c = λ P at feasible is on.
    let x = c.args.self.now in
    let floor = floor-at x.inst.now.draft x.rates.now x.floors.now.list.items x.patient.0 c.args.day x.floors_hold c.requires.day (tariff_of x.inst.now.draft x.rates.now x.prices.now) P at feasible is on in
    omega (arith, c.base_cost-base.ensures P at feasible is on, floor, c.of-floor.ensures, c.saturating_add.ensures, c.if-saturating_add-so_far.true)

pub returns-then-all-so_far-clause-day : goal.returns-then-all-so_far-clause-day
returns-then-all-so_far-clause-day c = λ P at feasible is on.
    let x = c.args.self.now in
    let floor = floor-at x.inst.now.draft x.rates.now x.floors.now.list.items x.patient.0 c.args.day x.floors_hold c.requires.day (tariff_of x.inst.now.draft x.rates.now x.prices.now) P at feasible is on in
    omega (arith, c.base_cost-base.ensures P at feasible is on, floor, c.of-floor.ensures, c.patient_care.ensures P at feasible is on, c.max-care.ensures, c.saturating_add-all.ensures)

pub returns-else-all-so_far-clause-day : goal.returns-else-all-so_far-clause-day
returns-else-all-so_far-clause-day c = λ P at feasible is on.
    let x = c.args.self.now in
    let floor = floor-at x.inst.now.draft x.rates.now x.floors.now.list.items x.patient.0 c.args.day x.floors_hold c.requires.day (tariff_of x.inst.now.draft x.rates.now x.prices.now) P at feasible is on in
    omega (arith, c.base_cost-base.ensures P at feasible is on, floor, c.of-floor.ensures, c.patient_care.ensures P at feasible is on, c.max-care.ensures, c.saturating_add-all.ensures, c.if-all-so_far.false)
