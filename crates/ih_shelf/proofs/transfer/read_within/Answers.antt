use Rattle.std.proofs.Common.{◌++◌, arith, take}
use Rattle.std.proofs.lemmas.Grind.{common_steps}
use Rattle.std.proofs.KnownBytes.{Consumes-trans}
use Rattle.ih_shelf.proofs.transfer.read_within.Goals as goal

-- What was read is the bytes so far and the piece that came last.
pub returns-then-count-room-clause-stops : goal.returns-then-count-room-clause-stops
returns-then-count-room-clause-stops g c = (
  c.loop-most.bytes.items ++ take c.in-Ok.count c.read.new.buf,
  grind (arith, common_steps),
  Consumes-trans _ _ _ _ _ c.loop-most.invariant.taken (c.in-Ok.ensures.bytes).0,
)

pub returns-then-is_err-clause-stops : goal.returns-then-is_err-clause-stops
returns-then-is_err-clause-stops g c = (
  c.loop-most.bytes.items ++ take c.in-Ok.count c.read.new.buf,
  grind (arith, common_steps),
  Consumes-trans _ _ _ _ _ c.loop-most.invariant.taken (c.in-Ok.ensures.bytes).0,
)
