use Rattle.ih_desk.proofs.Full.{full}
use Rattle.ih_desk.proofs.laws.finished_searches_are_full.Goals as goal

pub returns : goal.returns
returns c = full
