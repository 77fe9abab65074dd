-- An accepted attempt does at its place what it did where it was priced, however old that was.
use Rattle.std.proofs.Common.{◌≡◌, ℕ, zero, suc, ◌+◌, refl, arith, sym, ap, ◌∙◌, Bool, true, false, List, [], ◌∷◌, take, drop, Option, Some, None}
use Rattle.std.specs.Prelude.{if◌then◌else◌, ◌&&◌, int_lt, slice_get}
use Rattle.std.specs.List.{range_with_len}
use Rattle.std.proofs.lemmas.Bool.{or_parts}
use Rattle.std.proofs.lemmas.List.{take-append-drop}
use Rattle.ih_tables.specs.declared.drafts.Draft.{Draft}
use Rattle.ih_tables.specs.declared.bills.Bill.{Bill}
use Rattle.ih_tables.specs.declared.cells.Cell.{Cell}
use Rattle.ih_tables.specs.Bills.{score}
use Rattle.ih_tables.specs.Sizes.{sizes_of}
use Rattle.ih_plan.specs.declared.moves.Move.{Move}
use Rattle.ih_plan.specs.Timetable.{Timetable, IsPlanOf}
use Rattle.ih_plan.specs.Cells.{IsCellOf, content_of, cell_at, cell_count, number_in}
use Rattle.ih_plan.specs.Series.{AreMoves, after_all, all_touch, price_of_all}
use Rattle.ih_journal.specs.Tried.{Tried}
use Rattle.ih_journal.specs.declared.entries.Verdict.TheVariants.{Accepted, Declined, Frozen}
use Rattle.ih_journal.specs.Settings.{theta}
use Rattle.ih_journal.specs.Base.{Base}
use Rattle.ih_journal.specs.Frozen.{is_frozen}
use Rattle.ih_journal.specs.History.{is_accepted, after_entry, after_entries, touches_accepted, touched_since, plan_at, plan_after}
use Rattle.ih_journal.specs.Legal.{verdict_on, stale_or_accepted, first_touched}
use Rattle.ih_journal.proofs.HistoryLemmas.{after_entries-append}
use Rattle.ih_journal.proofs.Growth.{AreOfMoves, after_entry-plan, after_entries-plan, plan_at-plan}
use Rattle.ih_footprint.specs.Laws.{AreSameOn}
use Rattle.ih_footprint.specs.Laws.{AreLocal}
use Rattle.ih_footprint.proofs.SeriesLocality.{frame_series, series_local}
use Rattle.ih_footprint.proofs.Ranked.{cell_in-number_in, number_in-in}
use Rattle.ih_cellbook.proofs.Finds.{find-none, range-has}

-- an entry that doesn't change a cell leaves its content
entry-keeps : (I : Draft) (P : Timetable) (e : Tried) (c : Cell) → IsPlanOf I P → AreMoves I e.moves → IsCellOf I c → touches_accepted I P e c ≡ false
    → content_of I (after_entry I P e) c ≡ content_of I P c
entry-keeps I P e c plan fits range h = by_case (is_accepted e.verdict) h
  where
    by_case : (b : Bool) → (b && all_touch I P e.moves c) ≡ false → content_of I (if b then after_all I P e.moves else P) c ≡ content_of I P c
    by_case true apart = frame_series I P e.moves c plan fits range apart
    by_case false apart = refl

-- a cell that no entry changes keeps its content
pub entries-keep : (I : Draft) (P : Timetable) (es : List Tried) (c : Cell) → IsPlanOf I P → AreOfMoves I es → IsCellOf I c → touched_since I P es c ≡ false
    → content_of I (after_entries I P es) c ≡ content_of I P c
unfolding after_entries touched_since
entries-keep I P [] c plan fits range h = refl
entries-keep I P (e ∷ es) c plan fits range h =
    let apart = or_parts (touches_accepted I P e c) (touched_since I (after_entry I P e) es c) h in
    entries-keep I (after_entry I P e) es c (after_entry-plan I P e plan (fits 0 e refl)) (λ k f g. fits (suc k) f g) range apart.1
    ∙ entry-keeps I P e c plan (fits 0 e refl) range apart.0

accepted-first : (b : Base) (H : List Tried) (o : Option ℕ) (seen : ℕ) (f t : Bool) → (if f then Frozen else if t then Declined else stale_or_accepted b H seen o) ≡ Accepted → o ≡ None
accepted-first b H o seen true t e = absurd (let no : Frozen ≡ Accepted = e in cc)
accepted-first b H o seen false true e = absurd (let no : Declined ≡ Accepted = e in cc)
accepted-first b H None seen false false e = refl
accepted-first b H (Some n) seen false false e = absurd (let no : stale_or_accepted b H seen (Some n) ≡ Accepted = e in cc)

drop-get : (H : List Tried) (n k : ℕ) (e : Tried) → slice_get (drop n H) k ≡ Some e → slice_get H (n + k) ≡ Some e
drop-get H zero k e h = let same : 0 + k ≡ k = omega arith in rw same h
drop-get [] (suc n) k e h = absurd (let no : None ≡ Some e = h in cc)
drop-get (x ∷ xs) (suc n) k e h = let more : suc n + k ≡ suc (n + k) = omega arith in rw more (drop-get xs n k e h)

pub drop-moves : (I : Draft) (n : ℕ) (H : List Tried) → AreOfMoves I H → AreOfMoves I (drop n H)
drop-moves I n H fits k e h = fits (n + k) e (drop-get H n k e h)

module _ (b : Base) (H : List Tried) (number seen : ℕ) (m : List Move) (price : Bill) (start : IsPlanOf b.instance b.start) (moves : AreOfMoves b.instance H)
    (fits : AreMoves b.instance m) (accepted : verdict_on b H number seen m price ≡ Accepted) where
  none-changed : first_touched b.instance (plan_at b H seen) (drop seen H) m ≡ None
  unfolding verdict_on
  none-changed =
      accepted-first b H (first_touched b.instance (plan_at b H seen) (drop seen H) m) seen (is_frozen b (plan_at b H seen) m)
      (int_lt (theta b.options number) (score b.options.hard b.instance.weights price)) accepted

  plan_seen : IsPlanOf b.instance (plan_at b H seen)
  plan_seen = plan_at-plan b H seen start moves

  later : plan_after b H ≡ after_entries b.instance (plan_at b H seen) (drop seen H)
  later = ap (after_entries b.instance b.start) (sym (take-append-drop seen H)) ∙ after_entries-append b.instance b.start (take seen H) (drop seen H)

  same-there : AreSameOn b.instance (all_touch b.instance (plan_at b H seen) m) (plan_at b H seen) (plan_after b H)
  unfolding first_touched
  same-there c range touched =
      let n : ℕ = number_in (sizes_of b.instance) c in
      let inside = number_in-in (sizes_of b.instance) c range in
      let test = λ (n : ℕ). all_touch b.instance (plan_at b H seen) m (cell_at b.instance n) && touched_since b.instance (plan_at b H seen) (drop seen H) (cell_at b.instance n) in
      let off : test n ≡ false = find-none test (range_with_len 0 (cell_count b.instance)) none-changed n (range-has 0 (cell_count b.instance) n (omega arith) (omega arith)) in
      let here : (all_touch b.instance (plan_at b H seen) m c && touched_since b.instance (plan_at b H seen) (drop seen H) c) ≡ false = rw (cell_in-number_in (sizes_of b.instance) c range) at off in
      let apart : touched_since b.instance (plan_at b H seen) (drop seen H) c ≡ false = rw touched at here in
      rw later (entries-keep b.instance (plan_at b H seen) (drop seen H) c plan_seen (drop-moves b.instance seen H moves) range apart)

  -- The attempt does the same at its place as where it was priced.
  pub accepted-local : AreLocal b.instance (plan_at b H seen) (plan_after b H) m (all_touch b.instance (plan_at b H seen) m)
  accepted-local = series_local b.instance (plan_at b H seen) (plan_after b H) m (all_touch b.instance (plan_at b H seen) m) plan_seen
      (after_entries-plan b.instance b.start H start moves) fits same-there (λ c range touched. touched)

  -- Its price is the change of the bill at its place.
  pub accepted-exact : price ≡ price_of_all b.instance (plan_at b H seen) m → price ≡ price_of_all b.instance (plan_after b H) m
  accepted-exact e = e ∙ sym accepted-local.price
