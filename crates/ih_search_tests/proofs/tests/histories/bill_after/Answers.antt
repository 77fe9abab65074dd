use Rattle.std.proofs.Common.{get_or, sym, subst}
use Rattle.std.specs.Prelude.{All}
use Rattle.std.proofs.lemmas.Option.{slice_get-get_or}
use Rattle.ih_tables.specs.declared.drafts.Draft.{Draft}
use Rattle.ih_plan.specs.Series.{AreMoves}
use Rattle.ih_journal.specs.Tried.{Tried, tries}
use Rattle.ih_search_tests.proofs.tests.histories.bill_after.Goals as goal

pub plan_at-requires-clause-moves : goal.plan_at-requires-clause-moves
plan_at-requires-clause-moves c =
    let v = c.args.book.now in
    let moves : All (λ (e : Tried). AreMoves v.base.instance e.moves) v.entries =
    λ k d h. (c.entries-entries.ensures.legal k (get_or v.entries k d) (slice_get-get_or v.entries k d h)).move in
    subst (λ (I : Draft). All (λ (e : Tried). AreMoves I e.moves) (tries c.entries-entries.result.now)) (sym c.requires.instance)
    (subst (All (λ (e : Tried). AreMoves v.base.instance e.moves)) (sym c.entries-entries.ensures.entries) moves)
