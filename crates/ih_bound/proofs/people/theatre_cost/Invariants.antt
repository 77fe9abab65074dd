use Rattle.std.proofs.Common.{ℕ, ◌≤◌, ◌<◌}
use Rattle.ih_plan.specs.Costs.{theatre_availability}
use Rattle.ih_bound.specs.declared.prices.Rates.{Rates}
use Rattle.ih_bound.specs.Tariffs.{tariff_of}
use Rattle.ih_bound.specs.Paid.{theatre_paid}
use Rattle.ih_bound.proofs.people.theatre_cost.Given as goal

abbrev pub invariant-loop-t : goal.invariant-loop-t
invariant-loop-t l = (rates : Rates) (i : ℕ) → i < l.t → l.minutes ≤ theatre_availability l.inst.draft i l.day
    → l.least ≤ theatre_paid (tariff_of l.inst.draft rates l.prices) l.patient.0 l.minutes i l.day
