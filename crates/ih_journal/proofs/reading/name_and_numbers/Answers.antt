use Rattle.std.proofs.Common.{◌∙◌, ap, arith, length, List, ℕ}
use Rattle.ih_journal.specs.Grammar.{parted}
use Rattle.ih_journal.proofs.Lacking.{parted_same, same_tails}
use Rattle.ih_journal.proofs.Separators.{parted_some}
use Rattle.ih_journal.proofs.reading.name_and_numbers.Goals as goal

pub returns-in_err-rest-clause-none : goal.returns-in_err-rest-clause-none
returns-in_err-rest-clause-none c =
    rw c.from_residual.ensures
    (λ name ns few is.
    let none = ap (λ (xs : List (List ℕ)). length xs) (same_tails (rw c.in_err-rest.was at c.cut.ensures) is.cut) in
    let some = parted_some c.args.behind is.rest in
    omega (arith, none, some))

pub returns-in_err-count-clause-none : goal.returns-in_err-count-clause-none
returns-in_err-count-clause-none c =
    rw c.from_residual-in_err-count.ensures
    (λ name ns few is.
    let rest = parted_same c.args.behind _ is.rest (same_tails (rw c.in_ok-rest.was at c.cut.ensures) is.cut) in
    c.in_err-count.ensures.none ns few is.short (ap (parted c.args.between) rest ∙ is.read))

pub returns-clause-some : goal.returns-clause-some
returns-clause-some c =
    let read = c.in_ok-count.ensures.some in
    (read.0, record { rest = c.in_ok-rest.field-0.now; cut = rw c.in_ok-rest.was at c.cut.ensures; read = read.1; short = read.2 })
