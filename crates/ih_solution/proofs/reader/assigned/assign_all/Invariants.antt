use Rattle.ih_solution.proofs.Assigned.{HasAssignments}
use Rattle.ih_solution.proofs.reader.assigned.assign_all.Given as goal

abbrev pub invariant-loop-given : goal.invariant-loop-given
invariant-loop-given l = HasAssignments l.inst.draft l.row.nurse l.row.assignments l.given-index l.fn.plan l.plan
