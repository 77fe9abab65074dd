-- Nothing lies before day 0, and the writes of a single move.
use Rattle.std.proofs.Common.{◌≡◌, refl, arith, ap, false, List, [], ◌∷◌, ◌++◌, Option, Some, None}
use Rattle.std.specs.List.{list_any}
use Rattle.std.proofs.lemmas.Bool.{le-ltb}
use Rattle.ih_tables.specs.declared.drafts.Draft.{Draft}
use Rattle.ih_plan.specs.declared.moves.Move.{Move}
use Rattle.ih_plan.specs.declared.moves.Placement.{Placement}
use Rattle.ih_plan.specs.declared.moves.Write.{Write}
use Rattle.ih_plan.specs.declared.moves.Write.TheVariants.{SetStay, SetCare}
use Rattle.ih_plan.specs.Timetable.{Timetable, stay_of}
use Rattle.ih_plan.specs.Presence.{day_of}
use Rattle.ih_plan.specs.Expand.{expand}
use Rattle.ih_plan.specs.Series.{expand_all}
use Rattle.ih_plan.specs.Frozen.{is_before, is_frozen_write}

pub none-before : (stay : Option Placement) → is_before 0 stay ≡ false
none-before None = refl
none-before (Some at) = le-ltb at.day.0 0 (omega arith)

free-write : (start : Timetable) (w : Write) → is_frozen_write start 0 w ≡ false
free-write start (SetStay p new) = rw (none-before (stay_of start p.0), none-before new) refl
free-write start (SetCare r k n) = le-ltb (day_of k.0) 0 (omega arith)

pub none-frozen : (start : Timetable) (ws : List Write) → list_any (is_frozen_write start 0) ws ≡ false
none-frozen start [] = refl
none-frozen start (w ∷ ws) = rw (free-write start w, none-frozen start ws) refl

append-none : (ws : List Write) → ws ++ [] ≡ ws
append-none [] = refl
append-none (w ∷ ws) = ap (λ vs. w ∷ vs) (append-none ws)

-- the writes of a single move
pub single-writes : (I : Draft) (P : Timetable) (m : Move) → expand_all I P (m ∷ []) ≡ expand I P m
unfolding expand_all
single-writes I P m = append-none (expand I P m)
