use Rattle.std.proofs.Common.{arith}
use Rattle.ih_roomdays.proofs.Mixtures.{spread-of_none, spread-of_some}
use Rattle.ih_roomdays.proofs.Spans.{zeros-few}
use Rattle.ih_roomdays.proofs.occupancies.Occupancy.spread.Goals as goal

pub overflow_sub-result-else-self-eq0 : goal.overflow_sub-result-else-self-eq0
overflow_sub-result-else-self-eq0 c = omega (arith, zeros-few c.args.self.ages (omega arith) (omega arith))

pub returns-then-self-eq0 : goal.returns-then-self-eq0
returns-then-self-eq0 c = λ I p xs profiles known is. spread-of_none I p xs profiles known c.args.self is (omega arith) c.if-self-eq0.true

pub returns-else-self-eq0 : goal.returns-else-self-eq0
returns-else-self-eq0 c = λ I p xs profiles known is. spread-of_some I p xs profiles known c.args.self is (omega arith) (omega arith)
