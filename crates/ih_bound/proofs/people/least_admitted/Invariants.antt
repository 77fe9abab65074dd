use Rattle.std.proofs.Common.{◌≤◌}
use Rattle.ih_bound.specs.Tariffs.{tariff_of}
use Rattle.ih_bound.specs.Least.{BoundsAdmitted, IsBefore, IsTried}
use Rattle.ih_bound.proofs.people.least_admitted.Given as goal

abbrev pub invariant-loop-a : goal.invariant-loop-a
invariant-loop-a l = record {
  no_more : l.least ≤ l.most;
  admitted : BoundsAdmitted l.inst.draft l.rates (tariff_of l.inst.draft l.rates l.prices) l.patient.0 (IsBefore l.a) l.least;
  tried : IsTried l.inst.draft l.rates (tariff_of l.inst.draft l.rates l.prices) l.patient.0 l.end l.case.hint l.least;
}
