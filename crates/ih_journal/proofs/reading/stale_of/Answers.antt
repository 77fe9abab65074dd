use Rattle.std.proofs.Common.{◌∙◌, ap, sym, arith, ℕ, ◌<◌, ◌^◌, List, ◌∷◌}
use Rattle.std.specs.Prelude.{codes}
use Rattle.std.proofs.lemmas.Slice.Eq.{bytes_eq-Decides}
use Rattle.ih_journal.proofs.InRange.{limits}
use Rattle.ih_journal.proofs.Lacking.{head_of, same_tails, parted_text}
use Rattle.ih_journal.proofs.VerdictTexts.{stale_text, stale_read}
use Rattle.ih_journal.proofs.reading.stale_of.Goals as goal

pub returns-in_err-rest-clause-none : goal.returns-in_err-rest-clause-none
returns-in_err-rest-clause-none c =
    rw c.from_residual.ensures
    (λ v inside stale is.
    let text = stale_text c.args.inst.now.draft v c.args.bytes.now (limits _ c.args.inst.now.valid) inside stale is in
    let no = same_tails (rw c.in_err-rest.was at c.cut.ensures) text.parts in cc)

pub returns-in_err-rest-2-clause-none : goal.returns-in_err-rest-2-clause-none
returns-in_err-rest-2-clause-none c =
    rw c.from_residual-in_err-rest-2.ensures
    (λ v inside stale is.
    let text = stale_text c.args.inst.now.draft v c.args.bytes.now (limits _ c.args.inst.now.valid) inside stale is in
    let no = same_tails (rw c.in_err-rest-2.was at c.cut-2.ensures) (same_tails (rw c.in_ok-rest.was at c.cut.ensures) text.parts) in cc)

pub returns-in_err-cell-clause-none : goal.returns-in_err-cell-clause-none
returns-in_err-cell-clause-none c =
    rw c.from_residual-in_err-cell.ensures
    (λ v inside stale is.
    let text = stale_text c.args.inst.now.draft v c.args.bytes.now (limits _ c.args.inst.now.valid) inside stale is in
    c.in_err-cell.ensures.none text.cell text.inside (head_of (sym c.cut-2.ensures ∙ same_tails (rw c.in_ok-rest.was at c.cut.ensures) text.parts)))

pub returns-in_err-at_seen-clause-none : goal.returns-in_err-at_seen-clause-none
returns-in_err-at_seen-clause-none c =
    rw c.from_residual-in_err-at_seen.ensures
    (λ v inside stale is.
    let text = stale_text c.args.inst.now.draft v c.args.bytes.now (limits _ c.args.inst.now.valid) inside stale is in
    c.in_err-at_seen.ensures.none text.seen (omega (arith, text.seen_short))
    (head_of (sym c.cut-3.ensures ∙ same_tails (rw c.in_ok-rest-2.was at c.cut-2.ensures) (same_tails (rw c.in_ok-rest.was at c.cut.ensures) text.parts))))

pub returns-in_err-rest-3-clause-none : goal.returns-in_err-rest-3-clause-none
returns-in_err-rest-3-clause-none c =
    rw c.from_residual-in_err-rest-3.ensures
    (λ v inside stale is.
    let text = stale_text c.args.inst.now.draft v c.args.bytes.now (limits _ c.args.inst.now.valid) inside stale is in
    let no = same_tails (rw c.in_err-rest-3.was at c.cut-3.ensures)
    (same_tails (rw c.in_ok-rest-2.was at c.cut-2.ensures) (same_tails (rw c.in_ok-rest.was at c.cut.ensures) text.parts)) in cc)

pub returns-in_err-at_place-clause-none : goal.returns-in_err-at_place-clause-none
returns-in_err-at_place-clause-none c =
    rw c.from_residual-in_err-at_place.ensures
    (λ v inside stale is.
    let text = stale_text c.args.inst.now.draft v c.args.bytes.now (limits _ c.args.inst.now.valid) inside stale is in
    let last = same_tails (rw c.in_ok-rest-3.was at c.cut-3.ensures)
    (same_tails (rw c.in_ok-rest-2.was at c.cut-2.ensures) (same_tails (rw c.in_ok-rest.was at c.cut.ensures) text.parts)) in
    c.in_err-at_place.ensures.none text.place (omega (arith, text.place_short)) (parted_text 58 c.in_ok-rest-3.field-0.now _ last))

pub returns-clause-some : goal.returns-clause-some
returns-clause-some c =
    let one = rw c.in_ok-rest.was at c.cut.ensures in
    let two = rw c.in_ok-rest-2.was at c.cut-2.ensures in
    let three = rw c.in_ok-rest-3.was at c.cut-3.ensures in
    let cell = c.in_ok-cell.ensures.some in
    let seen = c.in_ok-at_seen.ensures.some in
    let place = c.in_ok-at_place.ensures.some in
    let name = (bytes_eq-Decides c.cut.result.0.now (codes "stale")).0 (sym c.is.ensures ∙ c.if-not-is.false) in
    let small : c.in_ok-at_place.field-0 < 2 ^ 32 = omega (arith, place.0) in
    let parts = one ∙ ap (λ (xs : List (List ℕ)). c.cut.result.0.now ∷ xs) (two ∙ ap (λ (xs : List (List ℕ)). c.cut-2.result.0.now ∷ xs) three) in (
      (cell.0, omega (arith, seen.0), small),
      stale_read c.args.bytes.now c.cut.result.0.now c.cut-2.result.0.now c.cut-3.result.0.now c.in_ok-rest-3.field-0.now c.in_ok-cell.cell
          c.in_ok-at_seen.field-0 c.in_ok-at_place.field-0 name cell.1 seen.1 small place.1 parts,
    )
