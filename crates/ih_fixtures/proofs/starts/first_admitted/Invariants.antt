use Rattle.ih_plan.specs.Timetable.{IsPlanOf}
use Rattle.ih_fixtures.proofs.starts.first_admitted.Given as goal

-- the plan fits the ward
abbrev pub invariant-loop-k : goal.invariant-loop-k
invariant-loop-k l = IsPlanOf l.inst.draft l.plan
