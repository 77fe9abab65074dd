use Rattle.std.proofs.Common.{◌≡◌, ◌∙◌, ap, sym, Some, subst, true, false}
use Rattle.ih_journal.specs.Settings.{IsLawful}
use Rattle.ih_journal.proofs.HeadTexts.{headings_differ, lawful_short}
use Rattle.ih_journal.proofs.headings.parse_head.Goals as goal

pub returns-then-lawful-clause-only : goal.returns-then-lawful-clause-only
returns-then-lawful-clause-only c = λ o lawful seed is.
    let read = c.in_ok-options.ensures.some in
    ap Some (headings_differ c.in_ok-options.options o read.0 (lawful_short o lawful seed) (sym read.1 ∙ is))

pub returns-else-lawful-clause-only : goal.returns-else-lawful-clause-only
returns-else-lawful-clause-only c = λ o lawful seed is.
    let read = c.in_ok-options.ensures.some in
    let same = headings_differ c.in_ok-options.options o read.0 (lawful_short o lawful seed) (sym read.1 ∙ is) in
    absurd (let no : false ≡ true = c.if-lawful.ensures.1 (subst IsLawful (sym same) lawful) in cc)
