use Rattle.std.proofs.Common.{arith}
use Rattle.ih_bound.proofs.LeastPaid.{until-due}
use Rattle.ih_bound.proofs.people.window_end.Goals as goal

pub returns-in-Some-clause-window : goal.returns-in-Some-clause-window
returns-in-Some-clause-window c = λ P at feasible is.
    let I = c.args.inst.now.draft in
    let due = until-due I P feasible c.args.patient.0 c.patient-q.result.now at c.requires c.patient-q.ensures is c.in-Some.due c.if-q.true c.in-Some.is in
    let day = (feasible.plan.placed c.args.patient.0 at is).day in
    omega (arith, due, day, c.saturating_add.ensures, c.min.ensures, c.days-days.ensures, c.args.inst.now.valid.days.most)
