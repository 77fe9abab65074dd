-- What holds of each entry of a legal history, and of its timetables.
use Rattle.std.proofs.Common.{◌≡◌, ◌^◌, ℕ, List, take, get_or, Some}
use Rattle.std.specs.Prelude.{All, map, slice_get}
use Rattle.std.proofs.lemmas.Option.{slice_get-get_or}
use Rattle.ih_tables.specs.Bills.{IsWithin}
use Rattle.ih_tables.specs.Valid.{IsValid}
use Rattle.ih_plan.specs.Timetable.{IsPlanOf}
use Rattle.ih_plan.specs.Series.{AreMoves, after_all}
use Rattle.ih_plan.proofs.Series.{after_all-plan}
use Rattle.ih_plan.proofs.BillBounds.{change-within}
use Rattle.ih_journal.specs.declared.entries.Entry.{Entry}
use Rattle.ih_journal.specs.Tried.{Tried, tried, tries}
use Rattle.ih_journal.specs.Base.{Base}
use Rattle.ih_journal.specs.History.{plan_at}
use Rattle.ih_journal.specs.Legal.{AreLegal}
use Rattle.ih_journal.proofs.Growth.{legal-moves, plan_at-plan, take-get}
use Rattle.ih_journal.proofs.Mapped.{get-mapped}

module _ (b : Base) (each : ℕ) (H : List Tried) (legal : AreLegal b each H) where
  pub moves-in : All (λ e. AreMoves b.instance e.moves) H
  moves-in k d h = (legal k (get_or H k d) (slice_get-get_or H k d h)).entry.move

  -- an entry's price is the change of a bill
  pub price-in : IsPlanOf b.instance b.start → IsValid b.instance → (k : ℕ) (e : Tried) → slice_get H k ≡ Some e → IsWithin (10 ^ 11) e.price
  price-in start valid k e here =
      let entry = (legal k e here).entry in
      let P = plan_at b (take k H) e.seen in
      let earlier : IsPlanOf b.instance P =
      plan_at-plan b (take k H) e.seen start (λ j f there. legal-moves b each H legal j f (take-get H k j f there)) in
      rw entry.price (change-within b.instance P (after_all b.instance P e.moves) valid earlier
      (after_all-plan b.instance P e.moves earlier entry.move))

-- the prices of entries, whatever type keeps them
pub prices-of : {E : Type 0} (f : E → Tried) (b : Base) (each : ℕ) (H : List E) → AreLegal b each (map f H) → IsPlanOf b.instance b.start → IsValid b.instance
    → All (λ e. IsWithin (10 ^ 11) (f e).price) H
prices-of f b each H legal start valid k d h =
    price-in b each (map f H) legal start valid k (f (get_or H k d)) (get-mapped f H k (get_or H k d) (slice_get-get_or H k d h))

-- the prices of single moves
pub prices-in : (b : Base) (each : ℕ) (H : List Entry) → AreLegal b each (tries H) → IsPlanOf b.instance b.start → IsValid b.instance
    → All (λ e. IsWithin (10 ^ 11) e.price) H
prices-in = prices-of tried
