use Rattle.std.proofs.Common.{◌≡◌, ◌∙◌, sym, ap, arith, true, false, List, ℕ, Bor}
use Rattle.std.specs.Prelude.{is_some}
use Rattle.std.specs.Option.{option_copied}
use Rattle.ih_journal.proofs.HeadTexts.{copied_some, retries_whole, retries_next}
use Rattle.ih_journal.proofs.headings.retries_of.Goals as goal
use Rattle.ih_journal.proofs.headings.retries_of.Goals.{else-retries-gt0-via-then-retries-gt0+else-is_none-2, else-retries-gt0-via-else-retries-gt0}

pub returns-in_err-retries-clause-none : goal.returns-in_err-retries-clause-none
returns-in_err-retries-clause-none c =
    rw c.from_residual.ensures
    (λ r small e.
    retries_next r (option_copied c.args.left) (copied_some (λ (x : Bor (List ℕ)). x.now) c.args.left ∙ c.if-is_none.ensures)
    (λ one. c.in_err-retries.ensures.none r _ (omega arith) one) e)

pub returns-else-retries-gt0-clause-none : goal.returns-else-retries-gt0-clause-none
returns-else-retries-gt0-clause-none c = λ r small e.
    let read = c.in_ok-retries.ensures.some in
    let whole = retries_whole r c.in_ok-retries.retries (option_copied c.in_ok-retries.left) small (omega (arith, read.0)) (sym read.1 ∙ e) in
    elim c.else-retries-gt0.branch [
      | else-retries-gt0-via-then-retries-gt0+else-is_none-2 w ↦
          let no : false ≡ true = sym (ap is_some whole.1) ∙ copied_some (λ (x : Bor (List ℕ)). x.now) c.in_ok-retries.left ∙ w.if-is_none-2.ensures in cc
      | else-retries-gt0-via-else-retries-gt0 w ↦ let no = w.if-retries-gt0.false in let some = whole.0 in omega (arith, no, some)
    ]
