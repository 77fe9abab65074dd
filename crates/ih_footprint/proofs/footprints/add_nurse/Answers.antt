use Rattle.ih_footprint.proofs.GatherLemmas.{gathers-like, gathers-none}
use Rattle.ih_footprint.proofs.FootLemmas.{nurse-none, nurse-some}
use Rattle.ih_footprint.proofs.footprints.add_nurse.Goals as goal

pub returns-in-Some : goal.returns-in-Some
returns-in-Some c = gathers-like (λ e range. nurse-some c.in-Some.m c.args.shift c.args.nurse c.in-Some.is e) c.add_cell.ensures

pub returns-in-None : goal.returns-in-None
returns-in-None c = gathers-none (nurse-none c.args.shift c.args.nurse c.in-None.is)
