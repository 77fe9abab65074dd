use Rattle.std.proofs.Common.{◌∙◌, sym, ap}
use Rattle.std.specs.Prelude.{codes}
use Rattle.std.proofs.lemmas.Slice.Eq.{bytes_eq-Decides}
use Rattle.ih_journal.specs.declared.settings.Options.{Options}
use Rattle.ih_journal.specs.Texts.{version_text}
use Rattle.ih_journal.proofs.Lacking.{head_of, same_tails, texts_differ}
use Rattle.ih_journal.proofs.HeadTexts.{heading_parted, heading_read, options_differ}
use Rattle.ih_journal.proofs.headings.options_of.Goals as goal

pub returns-then-not-is-clause-none : goal.returns-then-not-is-clause-none
returns-then-not-is-clause-none c = λ o short is.
    let parts = heading_parted o c.args.bytes.now short is in
    texts_differ c.cut.result.0.now (codes "ihjournal") (sym c.is.ensures ∙ c.if-not-is.true) (head_of (sym c.cut.ensures ∙ parts))

pub returns-in_err-left-clause-none : goal.returns-in_err-left-clause-none
returns-in_err-left-clause-none c =
    rw c.from_residual.ensures
    (λ o short is.
    let no = same_tails (rw c.in_err-left.was at c.cut.ensures) (heading_parted o c.args.bytes.now short is) in cc)

pub returns-in_err-options-clause-none : goal.returns-in_err-options-clause-none
returns-in_err-options-clause-none c =
    rw c.from_residual-in_err-options.ensures
    (λ o short is.
    let title = same_tails (rw c.in_ok-left.was at c.cut.ensures) (heading_parted o c.args.bytes.now short is) in
    c.in_err-options.ensures.none o short (same_tails c.cut-2.ensures title))

pub returns-then-not-is-2-clause-none : goal.returns-then-not-is-2-clause-none
returns-then-not-is-2-clause-none c = λ o short is.
    let title = same_tails (rw c.in_ok-left.was at c.cut.ensures) (heading_parted o c.args.bytes.now short is) in
    let read = c.in_ok-options.ensures.some in
    let same = options_differ c.in_ok-options.options o read.0 short (sym read.1 ∙ same_tails c.cut-2.ensures title) in
    texts_differ c.cut-2.result.0.now c.version.result.now (sym c.is-2.ensures ∙ c.if-not-is-2.true)
    (head_of (sym c.cut-2.ensures ∙ title) ∙ ap (λ (p : Options). version_text p.retries) (sym same) ∙ sym c.version.ensures)

pub returns-clause-some : goal.returns-clause-some
returns-clause-some c =
    let title = (bytes_eq-Decides c.cut.result.0.now (codes "ihjournal")).0 (sym c.is.ensures ∙ c.if-not-is.false) in
    let number = (bytes_eq-Decides c.cut-2.result.0.now c.version.result.now).0 (sym c.is-2.ensures ∙ c.if-not-is-2.false) ∙ c.version.ensures in
    let read = c.in_ok-options.ensures.some in (
      read.0,
      heading_read c.in_ok-options.options c.args.bytes.now c.cut.result.0.now c.cut-2.result.0.now _ _ (rw c.in_ok-left.was at c.cut.ensures) title
          c.cut-2.ensures number read.1,
    )
