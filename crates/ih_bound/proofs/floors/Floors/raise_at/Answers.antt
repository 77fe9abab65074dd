use Rattle.std.proofs.Common.{arith}
use Rattle.ih_bound.proofs.FloorLemmas.{floors-put}
use Rattle.ih_bound.proofs.floors.Floors.raise_at.Goals as goal

pub returns-then-place-len : goal.returns-then-place-len
returns-then-place-len c = floors-put c.args.inst.now.draft c.args.rates.now c.args.self.now.list.items c.args.index c.floor_of-floor.result c.requires.floors
    (rw c.days-days.ensures at c.floor_of-floor.ensures) (omega (arith, c.if-place-len.true, c.len.ensures))
