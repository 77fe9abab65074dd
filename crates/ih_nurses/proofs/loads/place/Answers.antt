use Rattle.ih_tables.proofs.LoadLemmas.{load_inside}
use Rattle.ih_nurses.proofs.loads.place.Goals as goal

pub returns-clause-inside : goal.returns-clause-inside
returns-clause-inside c = rw c.shifts.ensures (load_inside c.args.inst.now.draft c.args.nurse.0 c.args.shift.0 c.requires.nurse c.requires.shift)
