use Rattle.std.proofs.Common.{◌∙◌, refl, ap, sym, ◌++◌, List, ℕ, decimal}
use Rattle.std.proofs.lemmas.Bool.Decides.{Decides-eqb}
use Rattle.std.proofs.lemmas.Slice.Eq.{strip_prefix_is}
use Rattle.ih_journal.proofs.Lacking.{head_of}
use Rattle.ih_journal.proofs.headings.next_option.Goals as goal

pub returns-in_err-strip_prefix-clause-none : goal.returns-in_err-strip_prefix-clause-none
returns-in_err-strip_prefix-clause-none c =
    rw c.from_residual-in_err-strip_prefix.ensures
    (λ n rest small e.
    let whole = sym c.cut.ensures ∙ rw c.in_ok-left.was at e in
    let cases = strip_prefix_is Decides-eqb c.cut.result.0.now c.as_bytes.result.now c.strip_prefix.result c.strip_prefix.ensures.cases in
    let none = rw c.in_err-strip_prefix.was at cases in
    none (decimal n) (head_of whole ∙ ap (λ (name : List ℕ). name ++ decimal n) (sym c.as_bytes.ensures.value)))

pub returns-clause-some : goal.returns-clause-some
returns-clause-some c =
    let cases = strip_prefix_is Decides-eqb c.cut.result.0.now c.as_bytes.result.now c.strip_prefix.result c.strip_prefix.ensures.cases in
    let read = c.in_ok-n.ensures.some in
    let field = rw c.in_ok-strip_prefix.was at cases in
    (read.0, rw (c.in_ok-left.was, c.cut.ensures, field, read.1, c.as_bytes.ensures.value) refl)
