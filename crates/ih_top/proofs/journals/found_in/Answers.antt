use Rattle.std.proofs.Common.{refl, subst, sym}
use Rattle.std.specs.Prelude.{IfNone}
use Rattle.ih_top.specs.Below.Arguments.{start_call}
use Rattle.ih_top.specs.Below.Searches.{Base}
use Rattle.ih_top.specs.JournalFiles.{read_from, HasNoHeading, IsHeadedBy, no_heading}
use Rattle.ih_top.specs.JournalUses.{IsOutcomeFor}
use Rattle.ih_top.proofs.JournalOutcomes.{headless-for, result-for}
use Rattle.ih_top.proofs.journals.found_in.Goals as goal

pub returns-in_default : goal.returns-in_default
returns-in_default g c =
    let x = read_from c.args.inputs c.args.bytes.now in
    subst (IsOutcomeFor c.args.journal_use (start_call c.args.start.now) x) (sym c.headless.ensures)
    (headless-for c.args.journal_use (start_call c.args.start.now) x no_heading
    (record { none = subst (λ o. IfNone o (HasNoHeading c.args.bytes.now)) c.in_default.is c.heading_of.ensures.none; refusal = refl }))

pub returns : goal.returns
returns g c =
    let b : Base = record {
      instance = c.in_ok-begun.begun.inst.value.draft;
      start = c.in_ok-begun.begun.start;
      options = c.in-Some.options;
      freeze = c.args.start.now.freeze;
    } in
    let headed : IsHeadedBy (start_call c.args.start.now) (read_from c.args.inputs c.args.bytes.now) b c.in-Some.lines.now = record {
      started = record { instance = c.in_ok-begun.ensures.instance; start = c.in_ok-begun.ensures.start; freeze = refl };
      lawful = c.in-Some.ensures.lawful;
      seed = c.in-Some.ensures.seed;
      joins = c.in-Some.ensures.joins;
    } in
    result-for (start_call c.args.start.now) (read_from c.args.inputs c.args.bytes.now) b c.in-Some.lines.now headed c.args.journal_use c.lines_outcome.result
    (rw c.deref.ensures at c.lines_outcome.ensures)
