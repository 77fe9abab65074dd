use Rattle.std.proofs.Common.{◌≡◌, subst, sym}
use Rattle.ih_top.specs.Below.Searches.{AreLegal, Base, BestIs, IsFull, base_given, tries}
use Rattle.ih_cellbook.proofs.LegalEntries.{prices-in}
use Rattle.ih_top.specs.Histories.{IsSound}
use Rattle.ih_top.proofs.solve.make_output.Goals as goal

pub journal_text-requires-clause-prices : goal.journal_text-requires-clause-prices
journal_text-requires-clause-prices g c =
    prices-in (base_given c.args.given.now) 1 c.entries-entries.result.now
    (subst (AreLegal (base_given c.args.given.now) 1) (sym c.entries-entries.ensures.entries) c.in_ok-book.ensures.full.legal) c.requires.start
    c.args.given.now.inst.now.valid

pub best_of-requires-clause-legal : goal.best_of-requires-clause-legal
best_of-requires-clause-legal g c =
    subst (AreLegal (base_given c.args.given.now) 1) (sym c.entries-entries.ensures.entries) c.in_ok-book.ensures.full.legal

pub best_of-requires-clause-best : goal.best_of-requires-clause-best
best_of-requires-clause-best g c =
    subst (λ es. BestIs (base_given c.args.given.now) es c.best.result) (sym c.entries-entries.ensures.entries)
    (subst (λ (d : Base). BestIs d c.in_ok-book.book.entries c.best.result) c.in_ok-book.ensures.base c.best.ensures)

pub returns : goal.returns
returns g c =
    let b = base_given c.args.given.now in
    let H = c.in_ok-book.book.entries in
    let is : tries c.entries-entries.result.now ≡ H = c.entries-entries.ensures.entries in
    record {
      history = c.entries-entries.result.now;
      given = c.requires;
      seed = c.seed_of-seed.ensures.small;
      made = record {
        full = subst (IsFull b 1) (sym is) c.in_ok-book.ensures.full;
        sound = subst (IsSound b) (sym is) (subst (λ (d : Base). IsSound d H) c.in_ok-book.ensures.base (record {
          given = c.entries-entries.ensures.base;
          agrees = c.entries-entries.ensures.agrees;
          exact = c.entries-entries.ensures.exact;
        }));
      };
      journal = c.in_ok-journal.ensures;
      best = c.in_ok-best.ensures;
    }
