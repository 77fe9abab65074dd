use Rattle.ih_plan.proofs.Parts.{has_parts}
use Rattle.ih_validate.proofs.laws.bills_have_parts.Goals as goal

pub returns : goal.returns
returns c = has_parts c.args._inst.now.draft
