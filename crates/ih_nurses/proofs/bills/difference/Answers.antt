use Rattle.ih_nurses.proofs.WithinLemmas.{small-back, rules-small, costs-small}
use Rattle.ih_nurses.proofs.bills.difference.Goals as goal

pub returns-clause-within : goal.returns-clause-within
returns-clause-within c = rw c.zero-bill.ensures (record {
  v = rules-small (small-back _ c.increase.ensures.low c.increase.ensures.high) (small-back _ c.increase-2.ensures.low c.increase-2.ensures.high);
  s = costs-small (small-back _ c.increase-3.ensures.low c.increase-3.ensures.high) (small-back _ c.increase-4.ensures.low c.increase-4.ensures.high)
      (small-back _ c.increase-5.ensures.low c.increase-5.ensures.high);
})
