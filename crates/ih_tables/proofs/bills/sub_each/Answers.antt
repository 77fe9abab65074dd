use Rattle.std.proofs.Common.{length, pos, ◌-ℤ◌, arith}
use Rattle.std.proofs.lemmas.List.FromFn.{fill_by_all}
use Rattle.ih_tables.specs.Bills.{at}
use Rattle.ih_tables.proofs.bills.sub_each.Goals as goal

pub returns : goal.returns
returns c =
    fill_by_all (λ k. at c.args.left.now k -ℤ at c.args.right.now k) c.loop-i.out (length c.args.out.now) (pos 0)
    c.loop-i.auto.out (λ k h. c.loop-i.invariant k (omega arith))
