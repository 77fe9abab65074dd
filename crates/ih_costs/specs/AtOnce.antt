-- What the writes of a move touch, all at the timetable before the move.
use Rattle.std.specs.Prelude.{◌≡◌, Bool, List}
use Rattle.std.specs.List.{list_any}
use Rattle.ih_tables.specs.declared.drafts.Draft.{Draft}
use Rattle.ih_tables.specs.declared.cells.Cell.{Cell}
use Rattle.ih_plan.specs.declared.moves.Write.{Write}
use Rattle.ih_plan.specs.declared.moves.Move.{Move}
use Rattle.ih_plan.specs.Timetable.{Timetable, IsPlanOf}
use Rattle.ih_plan.specs.Expand.{expand, IsMoveOf}
use Rattle.ih_plan.specs.Footprint.{write_touches, writes_touch}

-- the footprints of writes, all at one timetable
abbrev pub touch_at_once : Draft → Timetable → List Write → Cell → Bool
touch_at_once I P ws c = list_any (λ w. write_touches I P w c) ws

-- The law of one look: no write of a move changes what a later one looks at. So its writes touch at the timetable
-- before the move what they touch one behind the other.
abbrev pub MovesTouchAtOnce : Draft → Type 0
MovesTouchAtOnce I = (P : Timetable) (m : Move) (c : Cell) → IsPlanOf I P → IsMoveOf I m
    → touch_at_once I P (expand I P m) c ≡ writes_touch I P (expand I P m) c
