use Rattle.std.proofs.Common.{◌≡◌, inl, inr, ◌∙◌, sym, Bool, true, false}
use Rattle.std.specs.Prelude.{codes}
use Rattle.std.proofs.lemmas.Slice.Eq.{bytes_eq-Decides}
use Rattle.std.proofs.lemmas.List.Elements.{All-nil}
use Rattle.ih_journal.specs.Texts.{move_text}
use Rattle.ih_journal.specs.Names.{move_name, move_numbers}
use Rattle.ih_journal.proofs.MoveTexts.{move_cases, read_some, read_none}
use Rattle.ih_journal.proofs.reading.spelled_move.Goals as goal

pub returns-then-is-clause-some : goal.returns-then-is-clause-some
unfolding move_text
returns-then-is-clause-some c = ((bytes_eq-Decides c.args.bytes.now (codes "idle")).0 (sym c.is.ensures ∙ c.if-is.true), All-nil _)

not_idle : (b : Bool) → b ≡ false → b ≡ true → ⊥
not_idle b f t = let no : false ≡ true = sym f ∙ t in cc

pub returns-in_err-name-clause-none : goal.returns-in_err-name-clause-none
returns-in_err-name-clause-none c =
    rw c.from_residual.ensures
    (λ m short is.
    elim (move_cases m c.args.bytes.now short is) [
      | inl w ↦ not_idle _ (sym c.is.ensures ∙ c.if-is.false) ((bytes_eq-Decides c.args.bytes.now (codes "idle")).1 w.1)
      | inr w ↦ c.in_err-name.ensures.none (move_name m) (move_numbers m) w.few w.cut
    ])

pub returns-clause-some : goal.returns-clause-some
returns-clause-some c = rw c.move_named.ensures (read_some _ _ _ c.in_ok-name.ensures.some.1)

pub returns-clause-none : goal.returns-clause-none
returns-clause-none c =
    rw c.move_named.ensures
    (read_none _ _ _ (λ e. not_idle _ (sym c.is.ensures ∙ c.if-is.false) ((bytes_eq-Decides c.args.bytes.now (codes "idle")).1 e)) c.in_ok-name.ensures.some.1)
