use Rattle.std.proofs.Common.{arith, ap, length}
use Rattle.ih_moves.proofs.Working.{working-few}
use Rattle.ih_proposals.proofs.nurses.count_working.Goals as goal

pub overflow_cast-result : goal.overflow_cast-result
overflow_cast-result c =
    omega (arith, working-few c.args.inst.now.draft c.args.shift.0, ap length c.working-working.ensures, c.args.inst.now.valid.nurses.len)
