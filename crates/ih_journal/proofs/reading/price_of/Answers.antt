use Rattle.std.proofs.Common.{◌≡◌, ◌∙◌, ap, sym, arith, length, take}
use Rattle.std.proofs.lemmas.Grind.{common_steps}
use Rattle.std.proofs.lemmas.List.{length-map}
use Rattle.ih_journal.proofs.PriceTexts.{all_of, price_priced, price_some}
use Rattle.ih_journal.proofs.reading.price_of.Goals as goal

pub returns-in_err-count-clause-none : goal.returns-in_err-count-clause-none
returns-in_err-count-clause-none c =
    rw c.from_residual.ensures
    (λ b price is. let priced = price_priced b c.args.bytes.now price is in
    c.in_err-count.ensures.none (all_of b) (omega (arith, priced.len)) priced.small priced.parts)

pub returns-then-count-eq17-clause-some : goal.returns-then-count-eq17-clause-some
returns-then-count-eq17-clause-some c =
    let len : length c.signed_numbers.new.out ≡ 17 = omega arith in
    let whole : take c.in_ok-count.count c.signed_numbers.new.out ≡ c.signed_numbers.new.out = grind (arith, common_steps) in
    let read = c.in_ok-count.ensures.some in
    price_some c.bill_of.result c.args.bytes.now c.signed_numbers.new.out len (rw whole at read.2) (rw whole at read.1) c.bill_of.ensures.counts c.bill_of.ensures.costs

pub returns-else-count-eq17-clause-none : goal.returns-else-count-eq17-clause-none
returns-else-count-eq17-clause-none c = λ b price is.
    let priced = price_priced b c.args.bytes.now price is in
    let read = c.in_ok-count.ensures.some in
    let len : length c.signed_numbers.new.out ≡ 17 = omega arith in
    let count : length (take c.in_ok-count.count c.signed_numbers.new.out) ≡ c.in_ok-count.count = grind (arith, common_steps) in
    let same = simp length-map at (ap length (sym read.1 ∙ priced.parts)) in
    c.if-count-eq17.false (omega (arith, same, count, priced.len))
