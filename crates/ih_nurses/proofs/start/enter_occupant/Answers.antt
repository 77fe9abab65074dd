use Rattle.ih_nurses.proofs.StartLemmas.{filled-more}
use Rattle.ih_nurses.proofs.start.enter_occupant.Goals as goal

pub returns : goal.returns
returns c =
    filled-more c.args.inst.now.draft c.args.occupant_no c.occupant-occupant.result.now c.occupant-occupant.ensures c.args.here.now c.enter_days.new.here c.requires.so_far c.enter_days.ensures.sized
    (rw (c.end_from-end.ensures.value, c.patients.ensures) at c.enter_days.ensures.each)
