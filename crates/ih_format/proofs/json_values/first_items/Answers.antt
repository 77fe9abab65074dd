use Rattle.ih_format.proofs.Items.{first_is}
use Rattle.ih_format.proofs.json_values.first_items.Goals as goal

pub returns-clause-gives : goal.returns-clause-gives
returns-clause-gives c = first_is c.in_ok-values.values.now c.args.count c.args.at _ c.in_ok-values.ensures c.if-values-count.false
