use Rattle.std.proofs.Common.{rules, ◌≡◌, length, pos, ap}
use Rattle.ih_fill.proofs.ValueLemmas.{set-last}
use Rattle.ih_fill.proofs.scoring.without_uncovered.Goals as goal

pub returns-clause-value : goal.returns-clause-value
returns-clause-value c =
    let many : length c.args.bill.now.v ≡ 9 = search rules in
    ap (λ v. record { v = v; s = c.args.bill.now.s }) (set-last c.args.bill.now.v 8 (pos 0) many)
