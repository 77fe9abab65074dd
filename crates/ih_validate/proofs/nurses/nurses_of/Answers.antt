use Rattle.std.proofs.Common.{sym, arith}
use Rattle.ih_tables.specs.Sizes.{nurse_count}
use Rattle.ih_plan.proofs.SumBounds.{sum_below-none}
use Rattle.ih_plan.proofs.Entries.{no-shifts}
use Rattle.ih_validate.proofs.nurses.nurses_of.Goals as goal

pub returns-in-None-clause-value : goal.returns-in-None-clause-value
returns-in-None-clause-value c =
    rw (no-shifts c.args.inst.now.draft c.args.plan.now c.args.person (omega arith) (sym c.in-None.ensures)) (sym (sum_below-none (nurse_count c.args.inst.now.draft)))
