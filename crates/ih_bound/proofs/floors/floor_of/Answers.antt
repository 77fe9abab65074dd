use Rattle.std.proofs.Common.{arith}
use Rattle.ih_bound.proofs.FloorLemmas.{floor-free}
use Rattle.ih_bound.proofs.floors.floor_of.Goals as goal

pub returns : goal.returns
returns c = floor-free c.args.inst.now.draft c.args.rates.now c.args.free.now c.args.patient.0 c.args.day c.patient_care.result c.requires.free c.patient_care.ensures
