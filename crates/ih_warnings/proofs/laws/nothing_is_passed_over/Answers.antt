use Rattle.ih_warnings.proofs.Said.{is-said, is-silent}
use Rattle.ih_warnings.proofs.laws.nothing_is_passed_over.Goals as goal

pub returns : goal.returns
returns c = let I = c.args._inst.now.draft in record { said = is-said I; only = is-silent I }
