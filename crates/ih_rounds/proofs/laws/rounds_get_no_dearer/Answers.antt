use Rattle.ih_rounds.proofs.Dearer.{later-no-dearer}
use Rattle.ih_rounds.proofs.laws.rounds_get_no_dearer.Goals as goal

pub returns : goal.returns
returns c = later-no-dearer
