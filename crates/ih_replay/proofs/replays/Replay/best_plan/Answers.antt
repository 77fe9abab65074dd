use Rattle.std.proofs.Common.{◌≡◌, ◌∙◌, ℕ, sym, ap, subst, All, List, take, map}
use Rattle.ih_tables.specs.declared.drafts.Draft.{Draft}
use Rattle.ih_plan.specs.Series.{AreMoves}
use Rattle.ih_plan.specs.Timetable.{Timetable}
use Rattle.ih_journal.specs.Tried.{Tried, tried}
use Rattle.ih_journal.specs.Base.{Base}
use Rattle.ih_journal.specs.Best.{HasNone, IsBest}
use Rattle.ih_journal.specs.History.{after_entries, plan_at}
use Rattle.ih_cellbook.proofs.LegalEntries.{moves-in}
use Rattle.ih_replay.proofs.Singles.{as-taken}
use Rattle.ih_replay.proofs.replays.Replay.best_plan.Goals as goal

-- the timetable that was made is that at the place of the book's history
made-at : (b : Base) (I : Draft) (P Q : Timetable) (G H : List Tried) (place : ℕ) → b.instance ≡ I → b.start ≡ P → G ≡ H
    → Q ≡ after_entries I P (take place G) → Q ≡ plan_at b H place
made-at b I P Q G H place instance start same made =
    made
    ∙ (ap (λ J. after_entries J P (take place G)) (sym instance)
    ∙ (ap (λ R. after_entries b.instance R (take place G)) (sym start) ∙ ap (λ F. after_entries b.instance b.start (take place F)) same))

pub plan_at-requires-clause-moves : goal.plan_at-requires-clause-moves
plan_at-requires-clause-moves c =
    let v = c.self.inside.book in
    let moves : All (λ (e : Tried). AreMoves v.base.instance e.moves) v.entries = moves-in v.base 1 v.entries c.self.invariant.kept.legal in
    subst (λ (I : Draft). All (λ (e : Tried). AreMoves I e.moves) (map tried c.entries-entries.result.now)) c.self.invariant.instance
    (subst (All (λ (e : Tried). AreMoves v.base.instance e.moves)) (sym c.entries-entries.ensures.entries) moves)

pub returns-in-None-clause-best : goal.returns-in-None-clause-best
returns-in-None-clause-best c = as-taken HasNone c.self.inside.book c.args.self.now c.self.invariant.kept.legal c.self.view_is c.in-None.ensures

pub returns-in_ok-plan_at-in-Some-clause-best : goal.returns-in_ok-plan_at-in-Some-clause-best
returns-in_ok-plan_at-in-Some-clause-best c =
    let v = c.self.inside.book in
    let Q = c.in_ok-plan_at-in-Some.field-0 in
    let made = made-at v.base c.self.inside.inst.now.draft c.self.inside.start.now Q (map tried c.entries-entries.result.now) v.entries c.in-Some.place
    c.self.invariant.instance c.self.invariant.start c.entries-entries.ensures.entries c.in_ok-plan_at-in-Some.ensures.made in
    as-taken (λ b H. (k : ℕ) × IsBest b H k × (Q ≡ plan_at b H k)) v c.args.self.now c.self.invariant.kept.legal c.self.view_is
    (c.in-Some.place, c.in-Some.ensures.0, made)
