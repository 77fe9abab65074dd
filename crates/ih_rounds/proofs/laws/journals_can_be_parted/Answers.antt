use Rattle.ih_rounds.proofs.Parting.{rounds-parted}
use Rattle.ih_rounds.proofs.laws.journals_can_be_parted.Goals as goal

pub returns : goal.returns
returns c = rounds-parted
