use Rattle.std.proofs.Common.{◌∙◌, ap}
use Rattle.ih_tables.specs.declared.bills.Bill.{Bill}
use Rattle.ih_improve.specs.Better.{of_bill}
use Rattle.ih_improve.proofs.RoundLemmas.{begun-keeping}
use Rattle.ih_improve.proofs.improver.Improver.new.Goals as goal

pub invariant_of-result : goal.invariant_of-result
invariant_of-result c =
    begun-keeping c.args.inst.now.draft c.args.start.now _ c.args.settings.now c.of_bill.result c.in_ok-workers.workers.items c.requires.start c.requires.lawful
    (c.of_bill.ensures ∙ ap (λ (b : Bill). of_bill b) c.bill-costs.ensures.value) c.in_ok-workers.ensures.count c.in_ok-workers.ensures.instance c.in_ok-workers.ensures.stands
    c.in_ok-try_clone.field-0 c.in_ok-try_clone-2.field-0 c.in_ok-try_clone.ensures c.in_ok-try_clone-2.ensures
