use Rattle.ih_page.proofs.Inertness.{data-inert}
use Rattle.ih_page.proofs.laws.data_is_inert.Goals as goal

pub returns : goal.returns
returns c = λ h. data-inert h c.args._inst.now.draft
