use Rattle.ih_carry.specs.Handovers.{handover_of}
use Rattle.ih_carry.proofs.Saying.{all-said}
use Rattle.ih_carry.proofs.laws.nothing_is_lost_unsaid.Goals as goal

pub returns : goal.returns
returns c = all-said (handover_of c.args._handover.now) c.args._handover.now.ward.now.valid
