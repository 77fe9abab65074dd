-- Going through moves in a row, one by one.
use Rattle.std.proofs.Common.{◌≡◌, ℕ, ◌+◌, ◌<◌, ◌≤◌, List, length, drop, subst, sym, ap, get_or}
use Rattle.std.proofs.lemmas.List.{drop_more, drop_all}
use Rattle.ih_tables.specs.declared.drafts.Draft.{Draft}
use Rattle.ih_plan.specs.declared.moves.Move.{Move}
use Rattle.ih_plan.specs.Timetable.{Timetable}
use Rattle.ih_plan.specs.Expand.{after, IsMoveOf}
use Rattle.ih_plan.specs.Series.{after_all, AreMoves}

-- the next move is in range, and so are those after it
pub next-move : (I : Draft) (ms : List Move) (i : ℕ) (d : Move) → i < length ms → AreMoves I (drop i ms)
    → IsMoveOf I (get_or ms i d) × AreMoves I (drop (i + 1) ms)
next-move I ms i d h rest = subst (AreMoves I) (drop_more ms i d h) rest

pub next-made : (I : Draft) (P : Timetable) (ms : List Move) (i : ℕ) (d : Move) → i < length ms
    → after_all I (after I P (get_or ms i d)) (drop (i + 1) ms) ≡ after_all I P (drop i ms)
unfolding after_all
next-made I P ms i d h = sym (ap (after_all I P) (drop_more ms i d h))

pub last-move : (I : Draft) (P : Timetable) (ms : List Move) (i : ℕ) → length ms ≤ i → after_all I P (drop i ms) ≡ P
unfolding after_all
last-move I P ms i h = ap (after_all I P) (drop_all i ms h)
