use Rattle.ih_costs.proofs.ChoiceBills.{choice-law}
use Rattle.ih_costs.proofs.laws.choices_have_deltas.Goals as goal

pub returns : goal.returns
returns c P r k new plan fits other = choice-law c.args._inst.now.draft P r k new plan fits other
