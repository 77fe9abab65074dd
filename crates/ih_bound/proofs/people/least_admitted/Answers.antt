use Rattle.std.proofs.Common.{arith, inl, inr}
use Rattle.std.proofs.lemmas.Bool.{cases_lt}
use Rattle.ih_bound.proofs.LeastPaid.{from-release}
use Rattle.ih_bound.proofs.people.least_admitted.Goals as goal

pub loop-a-init : goal.loop-a-init
loop-a-init c = record {
  no_more = omega (arith, c.lower_first-least.ensures.no_more);
  admitted = λ P at feasible is early. absurd (omega (arith, early, from-release c.args.inst.now.draft P feasible c.args.patient.0 c.patient.result.now at c.requires.patient c.patient.ensures is));
  tried = c.lower_first-least.ensures.day;
}

pub loop-a-preserved : goal.loop-a-preserved
loop-a-preserved c = record {
  no_more = omega (arith, c.loop-a.invariant.no_more, c.lower_next-least.ensures.no_more);
  admitted = λ P at feasible is early. elim (cases_lt at.day.0 c.loop-a.a) [
    | inl before ↦ omega (arith, c.loop-a.invariant.admitted P at feasible is before, c.lower_next-least.ensures.no_more)
    | inr behind ↦ c.lower_next-least.ensures.day P at feasible is (omega (arith, early, behind))
  ];
  tried = λ a first inside P at feasible is on. omega (arith, c.loop-a.invariant.tried a first inside P at feasible is on, c.lower_next-least.ensures.no_more);
}

pub lower_next-least-requires-clause-tried : goal.lower_next-least-requires-clause-tried
lower_next-least-requires-clause-tried c = λ a first inside. c.loop-a.invariant.tried a first (omega (arith, inside))

pub returns-clause-no_more : goal.returns-clause-no_more
returns-clause-no_more c = c.loop-a.invariant.no_more

pub returns-clause-admitted : goal.returns-clause-admitted
returns-clause-admitted c = λ P at feasible is day.
    let window = c.window_end-end.ensures.window P at feasible is in
    c.loop-a.invariant.admitted P at feasible is (omega (arith, window))
