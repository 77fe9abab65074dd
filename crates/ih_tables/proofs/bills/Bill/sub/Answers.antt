use Rattle.std.proofs.Common.{length, ◌-ℤ◌, ap}
use Rattle.ih_tables.specs.Bills.{at}
use Rattle.ih_tables.proofs.BillLemmas.{sums_fit}
use Rattle.ih_tables.proofs.bills.Bill.sub.Goals as goal

pub sub_each-requires-clause-fits : goal.sub_each-requires-clause-fits
sub_each-requires-clause-fits c = λ k h.
    sums_fit 9 (λ j. at c.args.self.now.v j -ℤ at c.args.other.now.v j) c.requires.v k (rw (ap (λ b. length b.v) c.zero-difference.ensures) at h)

pub sub_each-requires-2-clause-fits : goal.sub_each-requires-2-clause-fits
sub_each-requires-2-clause-fits c = λ k h.
    sums_fit 8 (λ j. at c.args.self.now.s j -ℤ at c.args.other.now.s j) c.requires.s k (rw (ap (λ b. length b.s) c.zero-difference.ensures) at h)
