use Rattle.std.proofs.Common.{◌+ℤ◌, arith}
use Rattle.ih_tables.specs.Bills.{at}
use Rattle.ih_tables.proofs.BillLemmas.{sums_fit}
use Rattle.ih_tables.proofs.bills.Bill.take_in.Goals as goal

pub add_each-requires-clause-fits : goal.add_each-requires-clause-fits
add_each-requires-clause-fits c = λ k h.
    sums_fit 9 (λ j. at c.args.self.now.v j +ℤ at c.args.other.now.v j) c.requires.v k (omega arith)

pub add_each-requires-2-clause-fits : goal.add_each-requires-2-clause-fits
add_each-requires-2-clause-fits c = λ k h.
    sums_fit 8 (λ j. at c.args.self.now.s j +ℤ at c.args.other.now.s j) c.requires.s k (omega arith)
