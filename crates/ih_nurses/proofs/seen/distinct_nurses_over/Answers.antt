use Rattle.std.proofs.Common.{sym}
use Rattle.ih_tables.specs.Sizes.{nurse_count}
use Rattle.ih_plan.proofs.SumBounds.{sum_below-none}
use Rattle.ih_nurses.proofs.seen.distinct_nurses_over.Goals as goal

pub returns-in-None : goal.returns-in-None
returns-in-None c = rw (c.in-None.is) (sym (sum_below-none (nurse_count c.args.inst.now.draft)))
