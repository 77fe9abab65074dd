use Rattle.std.proofs.Common.{◌≡◌, ◌∙◌, ap, refl, sym, subst}
use Rattle.std.specs.Prelude.{All}
use Rattle.ih_plan.specs.Series.{AreMoves}
use Rattle.ih_cellbook.specs.Keeping.{base_with}
use Rattle.ih_plan.specs.Timetable.{IsPlanOf}
use Rattle.ih_journal.specs.Base.{Base}
use Rattle.ih_journal.specs.Best.{BestIs}
use Rattle.ih_journal.specs.Legal.{IsFull}
use Rattle.ih_cellbook.specs.Legal.{AreExact}
use Rattle.ih_cellbook.proofs.LegalEntries.{moves-in, prices-of}
use Rattle.ih_chain.specs.Entries.{chain_tried, chain_tries}
use Rattle.ih_chain.specs.Runs.{best_plan}
use Rattle.ih_chain.proofs.BestPlaces.{best-inside}
use Rattle.ih_chain.proofs.runs.run_of.Goals as goal

pub best_plan-requires-clause-inside : goal.best_plan-requires-clause-inside
best_plan-requires-clause-inside c =
    best-inside c.args.book.now.base c.entries-entries.result.now c.args.book.now.entries c.best-best.result
    c.entries-entries.ensures.entries c.best-best.ensures

pub best_plan-requires-clause-moves : goal.best_plan-requires-clause-moves
best_plan-requires-clause-moves c =
    let b = base_with c.args.inst.now.draft c.args.start.now c.args.options.now 0 in
    subst (All (λ e. AreMoves c.args.inst.now.draft e.moves)) (sym c.entries-entries.ensures.entries)
    (moves-in b c.args.each c.args.book.now.entries c.requires.full.legal)

pub returns : goal.returns
returns c =
    let b = base_with c.args.inst.now.draft c.args.start.now c.args.options.now 0 in
    let items = c.in_ok-from_slice.field-0.items in
    let same = c.in_ok-from_slice.ensures.items in
    let tries : chain_tries items ≡ c.args.book.now.entries = ap chain_tries same ∙ c.entries-entries.ensures.entries in
    let full = subst (IsFull b c.args.each) (sym tries) c.requires.full in
    record {
      options = refl;
      each = refl;
      full = full;
      exact = subst (AreExact b) (sym tries) (subst (λ (d : Base). AreExact d c.args.book.now.entries) c.requires.base c.entries-entries.ensures.exact);
      within = prices-of chain_tried b c.args.each items full.legal
          (subst (λ (d : Base). IsPlanOf d.instance d.start) c.requires.base c.entries-entries.ensures.base.start) c.args.inst.now.valid;
      best = subst (λ H. BestIs b H c.best-best.result) (sym tries) (subst (λ (d : Base). BestIs d c.args.book.now.entries c.best-best.result) c.requires.base c.best-best.ensures);
      plan = c.in_ok-plan.ensures.made ∙ ap (λ es. best_plan b es c.best-best.result) (sym same);
      fits = c.in_ok-plan.ensures.fits;
    }
