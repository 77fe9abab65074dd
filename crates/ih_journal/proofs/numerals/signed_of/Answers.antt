use Rattle.std.proofs.Common.{arith, ◌≡◌, ◌-◌, ◌∙◌, sym, length, take, drop}
use Rattle.std.proofs.lemmas.Grind.{common_steps}
use Rattle.std.proofs.lemmas.Fmt.{decimal_injective}
use Rattle.ih_journal.proofs.Digits.{minus_text}
use Rattle.ih_journal.proofs.numerals.signed_of.Goals as goal

pub returns-in_err-n-2-clause-none : goal.returns-in_err-n-2-clause-none
returns-in_err-n-2-clause-none c =
    rw c.from_residual-in_err-n-2.ensures
    (λ z small is.
    let whole : take (length c.args.bytes.now - 1) (drop 1 c.args.bytes.now) ≡ drop 1 c.args.bytes.now = grind (arith, common_steps) in
    let behind = minus_text c.args.bytes.now z small c.if-bytes-ne45.false is in
    c.in_err-n-2.ensures.none behind.0 behind.2 (whole ∙ behind.3))

pub returns-then-n-eq0-clause-none : goal.returns-then-n-eq0-clause-none
returns-then-n-eq0-clause-none c = λ z small is.
    let whole : take (length c.args.bytes.now - 1) (drop 1 c.args.bytes.now) ≡ drop 1 c.args.bytes.now = grind (arith, common_steps) in
    let behind = minus_text c.args.bytes.now z small c.if-bytes-ne45.false is in
    let read = c.in_ok-n-2.ensures.some in
    let same = decimal_injective c.in_ok-n-2.n behind.0 (omega arith) (omega arith) (sym read.1 ∙ whole ∙ behind.3) in
    omega (arith, same)
