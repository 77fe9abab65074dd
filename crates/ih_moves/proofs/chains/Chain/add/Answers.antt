use Rattle.ih_plan.proofs.Series.{moves-more}
use Rattle.ih_moves.proofs.chains.Chain.add.Goals as goal

pub returns : goal.returns
returns c = rw c.push.ensures (moves-more c.args._inst.now.draft c.args.self.now c.args.mv c.requires.moves c.requires.one)
