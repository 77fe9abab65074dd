use Rattle.std.proofs.Common.{◌≡◌, ◌≤◌, refl, ap, sym, ◌∙◌, subst, arith, length, take, List}
use Rattle.std.proofs.lemmas.List.{length-map}
use Rattle.ih_journal.specs.Tried.{tried, tries}
use Rattle.ih_journal.specs.History.{after_entries}
use Rattle.ih_cellbook.specs.Keeping.{base_with}
use Rattle.ih_cellbook.proofs.LegalEntries.{moves-in}
use Rattle.ih_rounds.specs.Rounds.{next_start}
use Rattle.ih_rounds.specs.Steps.{end_of}
use Rattle.ih_rounds.proofs.Leading.{end-inside, few-entries, leads, over}
use Rattle.ih_rounds.proofs.round.lead_on.Goals as goal

pub best_in-found-requires-clause-over : goal.best_in-found-requires-clause-over
best_in-found-requires-clause-over c =
    let b = base_with c.args.inst.now.draft c.args.start.now c.requires.answered.0 0 in
    (b, over b (tries c.args.entries.now) c.bill.result c.requires.start c.bill.ensures.value c.requires.answered.1.full.legal)

pub best_in-found-requires-clause-few : goal.best_in-found-requires-clause-few
best_in-found-requires-clause-few c = let few = few-entries _ _ c.requires.answered.1 in omega (arith, few)

pub overflow_cast-count : goal.overflow_cast-count
overflow_cast-count c = let few = few-entries _ _ c.requires.answered.1 in omega (arith, few)

pub plan_at-requires-clause-inside : goal.plan_at-requires-clause-inside
plan_at-requires-clause-inside c =
    let b = base_with c.args.inst.now.draft c.args.start.now c.requires.answered.0 0 in
    let H = c.args.entries.now in
    let best = c.best_in-found.ensures b (over b (tries H) c.bill.result c.requires.start c.bill.ensures.value c.requires.answered.1.full.legal) in
    let many = length-map H tried in
    rw c.end_of.ensures (subst (λ n. end_of c.best_in-found.result n ≤ n) many (end-inside b (tries H) c.best_in-found.result best))

pub plan_at-requires-clause-moves : goal.plan_at-requires-clause-moves
plan_at-requires-clause-moves c =
    let b = base_with c.args.inst.now.draft c.args.start.now c.requires.answered.0 0 in
    moves-in b 1 (tries c.args.entries.now) c.requires.answered.1.full.legal

pub returns : goal.returns
returns c = λ o is.
    let b = base_with c.args.inst.now.draft c.args.start.now o 0 in
    let H = c.args.entries.now in
    let found = c.best_in-found.result in
    let next : c.in_ok-next.next ≡ next_start b (tries H) found =
    c.in_ok-next.ensures.made
    ∙ (ap (λ k. after_entries b.instance b.start (take k (tries H))) (c.end_of.ensures ∙ ap (end_of found) (sym (length-map H tried))) ∙ leads b (tries H) found) in
    record {
      best = c.best_in-found.ensures b (over b (tries H) c.bill.result c.requires.start c.bill.ensures.value is.full.legal);
      count = refl;
      next = next;
      fits = c.in_ok-next.ensures.fits;
    }
