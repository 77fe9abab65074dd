use Rattle.std.proofs.Common.{◌≡◌, Some, None}
use Rattle.ih_top.specs.JournalFiles.{HasNoHeading}
use Rattle.ih_top.proofs.FirstLines.{if-none, line-headless}
use Rattle.ih_top.proofs.journal_heading.heading_of.Goals as goal

pub returns-in_err-options-clause-none : goal.returns-in_err-options-clause-none
returns-in_err-options-clause-none c =
    if-none c.from_residual-in_err-options.result (HasNoHeading c.args.bytes.now)
    (line-headless c.args.bytes.now c.in_ok-line.line.now c.in_ok-line.rest.now c.in_ok-line.ensures.some
    (λ o lawful seed same. let clash : None ≡ Some o = c.in_err-options.ensures.only o lawful seed same in cc))
