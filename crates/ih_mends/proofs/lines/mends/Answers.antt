use Rattle.std.proofs.Common.{◌∙◌, sym}
use Rattle.ih_mends.proofs.Feasible.{feasible-silent}
use Rattle.ih_mends.proofs.lines.mends.Goals as goal

pub returns-then-feasible : goal.returns-then-feasible
returns-then-feasible c =
    c.new.ensures.items
    ∙ sym (feasible-silent c.args.inst.now.draft c.args.plan.now c.bill-bill.result c.bill-bill.ensures.value (sym c.feasible.ensures ∙ c.if-feasible.true))
