use Rattle.ih_nurses.proofs.CountSteps.{count-inside}
use Rattle.ih_nurses.proofs.counts.place.Goals as goal

pub returns-clause-inside : goal.returns-clause-inside
returns-clause-inside c = rw c.nurses.ensures (count-inside c.args.inst.now.draft c.args.person c.args.nurse.0 c.requires.person c.requires.nurse)
