use Rattle.ih_page.proofs.ChangeLaws.{changes-listed}
use Rattle.ih_page.proofs.laws.changes_are_listed.Goals as goal

pub returns : goal.returns
returns c = changes-listed c.args._inst.now.draft
