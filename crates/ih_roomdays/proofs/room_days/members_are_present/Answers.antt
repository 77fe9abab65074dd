use Rattle.ih_roomdays.proofs.Standing.{tells}
use Rattle.ih_roomdays.proofs.room_days.members_are_present.Goals as goal

pub returns : goal.returns
returns c = tells c.args._inst.now.draft
