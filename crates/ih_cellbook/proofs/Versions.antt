-- Versions tell what changed: a cell's version rose exactly where an entry since was accepted and touched it.
use Rattle.std.proofs.Common.{◌≡◌, ℕ, ◌+◌, ◌≤◌, refl, arith, ap, ◌∙◌, Bool, List, [], ◌∷◌, ◌++◌, length, take, drop, inl, inr}
use Rattle.std.specs.Prelude.{◌&&◌, ◌==◌, not, find}
use Rattle.std.specs.List.{range_with_len}
use Rattle.std.proofs.lemmas.Bool.{cases_Bool, eq-eqb, ne_eqb}
use Rattle.std.proofs.lemmas.List.{take-append-drop}
use Rattle.ih_tables.specs.declared.drafts.Draft.{Draft}
use Rattle.ih_tables.specs.declared.cells.Cell.{Cell}
use Rattle.ih_plan.specs.declared.moves.Move.{Move}
use Rattle.ih_plan.specs.Timetable.{Timetable}
use Rattle.ih_plan.specs.Sums.{bit}
use Rattle.ih_plan.specs.Cells.{cell_at, cell_count}
use Rattle.ih_plan.proofs.ListedBelow.{which_below-filter}
use Rattle.ih_plan.specs.Series.{all_touch, footprint_of_all}
use Rattle.ih_plan.proofs.TestLemmas.{bit-most}
use Rattle.ih_journal.specs.Tried.{Tried}
use Rattle.ih_journal.specs.Base.{Base}
use Rattle.ih_journal.specs.History.{after_entry, touches_accepted, touched_since, touches_since, version, plan_at, plan_after}
use Rattle.ih_journal.specs.Legal.{first_touched}
use Rattle.ih_journal.proofs.HistoryLemmas.{touches_since-append, touches_since-none, touches_since-some}
use Rattle.ih_cellbook.proofs.Finds.{find-filter, find-same}

-- the version now isn't that after the first `seen` entries
abbrev pub rose : Base → List Tried → ℕ → Cell → Bool
rose b H seen c = not (version b H c == version b (take seen H) c)

pub rose-changed : (b : Base) (H : List Tried) (seen : ℕ) (c : Cell) → rose b H seen c ≡ touched_since b.instance (plan_at b H seen) (drop seen H) c
rose-changed b H seen c =
    let all = ap (λ xs. version b xs c) (take-append-drop seen H) in
    let parts = touches_since-append b.instance b.start (take seen H) (drop seen H) c in
    elim (cases_Bool (touched_since b.instance (plan_at b H seen) (drop seen H) c)) [
      | inl changed ↦
          let more = touches_since-some b.instance (plan_at b H seen) (drop seen H) c changed in
          rw (changed, ne_eqb (version b H c) (version b (take seen H) c) (λ e. omega arith)) refl
      | inr none ↦
          let no_more = touches_since-none b.instance (plan_at b H seen) (drop seen H) c none in
          rw (none, eq-eqb (version b H c) (version b (take seen H) c) (omega arith)) refl
    ]

-- The first cell of the footprint whose version rose is the first that an entry changed.
pub first_risen : (b : Base) (H : List Tried) (seen : ℕ) (m : List Move)
    → find (λ n. rose b H seen (cell_at b.instance n)) (footprint_of_all b.instance (plan_at b H seen) m) ≡ first_touched b.instance (plan_at b H seen) (drop seen H) m
unfolding footprint_of_all first_touched
first_risen b H seen m =
    let I : Draft = b.instance in
    let P : Timetable = plan_at b H seen in
    rw (which_below-filter (cell_count b.instance) (λ n. all_touch b.instance (plan_at b H seen) m (cell_at b.instance n)))
    (find-filter (λ n. all_touch b.instance (plan_at b H seen) m (cell_at b.instance n)) (λ n. rose b H seen (cell_at b.instance n)) (range_with_len 0 (cell_count b.instance))
    ∙ find-same (λ n. all_touch b.instance (plan_at b H seen) m (cell_at b.instance n) && rose b H seen (cell_at b.instance n))
    (λ n. all_touch b.instance (plan_at b H seen) m (cell_at b.instance n) && touched_since b.instance (plan_at b H seen) (drop seen H) (cell_at b.instance n))
    (range_with_len 0 (cell_count b.instance)) (λ n. rw (rose-changed b H seen (cell_at b.instance n)) refl))

-- the version after one entry more
pub version-more : (b : Base) (H : List Tried) (e : Tried) (c : Cell) → version b (H ++ e ∷ []) c ≡ version b H c + bit (touches_accepted b.instance (plan_after b H) e c)
unfolding touches_since
version-more b H e c =
    let parts = touches_since-append b.instance b.start H (e ∷ []) c in
    omega (arith, parts)

touches_since-most : (I : Draft) (P : Timetable) (es : List Tried) (c : Cell) → touches_since I P es c ≤ length es
unfolding touches_since
touches_since-most I P [] c = omega arith
touches_since-most I P (e ∷ es) c =
    let rest = touches_since-most I (after_entry I P e) es c in
    let one = bit-most (touches_accepted I P e c) in
    omega (arith, rest, one)

-- a cell changed at most once for each entry
pub version-most : (b : Base) (H : List Tried) (c : Cell) → version b H c ≤ length H
version-most b H c = touches_since-most b.instance b.start H c
