use Rattle.ih_plan.proofs.Series.{alone}
use Rattle.ih_plan.proofs.laws.single_moves_are_series.Goals as goal

pub returns : goal.returns
returns c = alone c.args._inst.now.draft
