use Rattle.ih_costs.proofs.AtOnceLemmas.{at-once}
use Rattle.ih_costs.proofs.laws.moves_touch_at_once.Goals as goal

pub returns : goal.returns
returns c = at-once c.args._inst.now.draft
