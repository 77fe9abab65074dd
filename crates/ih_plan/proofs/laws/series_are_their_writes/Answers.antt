use Rattle.ih_plan.proofs.Series.{their-writes}
use Rattle.ih_plan.proofs.laws.series_are_their_writes.Goals as goal

pub returns : goal.returns
returns c = their-writes c.args._inst.now.draft
