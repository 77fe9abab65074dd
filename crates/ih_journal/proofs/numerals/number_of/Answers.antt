use Rattle.ih_journal.proofs.Digits.{text_number, text_no_zero, number_text}
use Rattle.std.proofs.Common.{arith, ◌≡◌, length, get_or}
use Rattle.ih_journal.proofs.numerals.number_of.Goals as goal
use Rattle.ih_journal.proofs.numerals.number_of.Goals.{else-bytes-gt1-via-then-bytes-gt1+else-bytes-eq48, else-bytes-gt1-via-else-bytes-gt1}

pub returns-then-bytes-eq48-clause-none : goal.returns-then-bytes-eq48-clause-none
returns-then-bytes-eq48-clause-none c = λ n below is. text_no_zero c.args.bytes.now n (omega arith) is c.if-bytes-gt1.true c.if-bytes-eq48.true

pub returns-in_err-n-clause-none : goal.returns-in_err-n-clause-none
returns-in_err-n-clause-none c =
    rw c.from_residual.ensures
    (λ n below is.
    let value = text_number c.args.bytes.now n (omega arith) is in
    c.in_err-n.ensures.none value.0 (omega (arith, value.1)))

pub returns-then-n-most-clause-some : goal.returns-then-n-most-clause-some
returns-then-n-most-clause-some c =
    let no_zero : get_or c.args.bytes.now 0 0 ≡ 48 → length c.args.bytes.now ≡ 1 = λ first.
    elim c.else-bytes-gt1.branch [
      | else-bytes-gt1-via-then-bytes-gt1+else-bytes-eq48 w ↦ absurd
          (w.if-bytes-eq48.false first)
      | else-bytes-gt1-via-else-bytes-gt1 w ↦ let some = c.in_ok-n.ensures.some.0.0 in omega arith
    ] in
    (omega arith, number_text c.args.bytes.now c.in_ok-n.n c.in_ok-n.ensures.some.0 c.in_ok-n.ensures.some.1 (omega arith) no_zero)

pub returns-else-n-most-clause-none : goal.returns-else-n-most-clause-none
returns-else-n-most-clause-none c = λ n below is.
    let value = text_number c.args.bytes.now n (omega arith) is in
    let same = c.in_ok-n.ensures.some.1 in
    omega (arith, value.1, same)
