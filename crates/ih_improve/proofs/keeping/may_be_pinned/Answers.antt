use Rattle.std.proofs.Common.{arith}
use Rattle.ih_improve.proofs.keeping.may_be_pinned.Goals as goal

pub has_run-requires-clause-days : goal.has_run-requires-clause-days
has_run-requires-clause-days c =
    let inside = rw c.in-NurseRun.is at c.requires.inside in
    let day = inside.2 in
    let most = inside.4 in
    let days = c.args.inst.now.valid.days.most in
    omega (arith, day, most, days)
