use Rattle.ih_page.proofs.FindingSums.{findings-sum}
use Rattle.ih_page.proofs.laws.findings_sum.Goals as goal

pub returns : goal.returns
returns c = findings-sum c.args._inst.now.draft
