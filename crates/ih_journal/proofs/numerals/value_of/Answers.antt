use Rattle.std.proofs.Common.{arith, get_or}
use Rattle.std.specs.Int.{IsInRange}
use Rattle.ih_journal.proofs.Digits.{no_digit, digit_more, digits_longer, too_large}
use Rattle.ih_journal.proofs.numerals.value_of.Goals as goal

pub returns-then-not-is_ascii_digit-clause-none : goal.returns-then-not-is_ascii_digit-clause-none
returns-then-not-is_ascii_digit-clause-none c = λ numeral small.
    no_digit c.args.bytes.now c.loop-b.b-index c.loop-b-test.true
    (λ digit. let out = c.if-not-is_ascii_digit.ensures.cases in omega (arith, out, digit.0, digit.1)) numeral

pub returns-in_err-checked_mul-clause-none : goal.returns-in_err-checked_mul-clause-none
returns-in_err-checked_mul-clause-none c =
    rw c.from_residual.ensures
    (λ numeral small.
    let digit : IsInRange 48 57 (get_or c.args.bytes.now c.loop-b.b-index 0) = c.if-not-is_ascii_digit.ensures.cases in
    let value = c.loop-b.invariant.value in
    let large = c.in_err-checked_mul.ensures in
    too_large c.args.bytes.now c.loop-b.b-index c.loop-b-test.true digit (omega (arith, value, large)) small)

pub returns-in_err-n-clause-none : goal.returns-in_err-n-clause-none
returns-in_err-n-clause-none c =
    rw c.from_residual-in_err-n.ensures
    (λ numeral small.
    let digit : IsInRange 48 57 (get_or c.args.bytes.now c.loop-b.b-index 0) = c.if-not-is_ascii_digit.ensures.cases in
    let value = c.loop-b.invariant.value in
    let times = c.in_ok-checked_mul.ensures in
    let large = c.in_err-n.ensures in
    too_large c.args.bytes.now c.loop-b.b-index c.loop-b-test.true digit (omega (arith, value, times, large)) small)

pub loop-b-preserved : goal.loop-b-preserved
loop-b-preserved c =
    let digit : IsInRange 48 57 (get_or c.args.bytes.now c.loop-b.b-index 0) = c.if-not-is_ascii_digit.ensures.cases in
    let value = c.loop-b.invariant.value in
    let times = c.in_ok-checked_mul.ensures in
    let plus = c.in_ok-n.ensures in
    let more = digit_more c.args.bytes.now c.loop-b.b-index c.loop-b-test.true digit in
    record {
      digits = digits_longer c.args.bytes.now c.loop-b.b-index c.loop-b-test.true digit c.loop-b.invariant.digits;
      value = omega (arith, value, times, plus, more);
    }
