use Rattle.ih_moves.proofs.Working.{working-below}
use Rattle.ih_proposals.proofs.nurses.working_at.Goals as goal

pub returns : goal.returns
returns c =
    working-below c.args.inst.now.draft c.args.shift.0 c.args.index c.working-working.result.now _ c.working-working.ensures
    (rw c.working-working.ensures c.requires.place)
