use Rattle.std.proofs.Common.{ap, subst, sym, List, ℕ, Err}
use Rattle.std.specs.Prelude.{option_map}
use Rattle.std.specs.Borrow.{Bor}
use Rattle.ih_inputs.specs.Reading.{IsUnread, files_of}
use Rattle.ih_inputs.proofs.Unread.{journal_unread}
use Rattle.ih_inputs.proofs.reading.read_journal.Goals as goal

pub returns-in-Err-clause-unread : goal.returns-in-Err-clause-unread
returns-in-Err-clause-unread g c =
    let files = g.S.Shelf.names c.args.shelf.now in
    let r = files_of c.args.names.now in
    subst (IsUnread files r) (sym c.error_of_file.ensures)
    (journal_unread files r c.in-Some.name.now (record {
      instance = c.args._inst.now.draft;
      plan = c.args._plan.now;
      older = c.args._older.now;
      inputs = c.requires.inputs;
      older_is = c.requires.older;
      named = ap (option_map (λ (t : Bor (List ℕ)). t.now)) c.in-Some.is;
    }) c.in-Err.error (λ is. c.in-Err.ensures.too_long (ap (λ e. Err e) is)))
