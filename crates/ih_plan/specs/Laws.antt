-- Laws of moves in a row.
use Rattle.std.specs.Prelude.{◌≡◌, List, [], ◌∷◌}
use Rattle.ih_tables.specs.declared.drafts.Draft.{Draft}
use Rattle.ih_tables.specs.declared.cells.Cell.{Cell}
use Rattle.ih_plan.specs.declared.moves.Move.{Move}
use Rattle.ih_plan.specs.Timetable.{Timetable, IsPlanOf}
use Rattle.ih_plan.specs.Expand.{after, expand}
use Rattle.ih_plan.specs.Writes.{put_all, AreWritesOf}
use Rattle.ih_plan.specs.BillOf.{change_of_bill}
use Rattle.ih_plan.specs.Footprint.{touches, footprint}
use Rattle.ih_plan.specs.Series.{AreMoves, after_all, all_touch, expand_all, footprint_of_all, price_of_all}

-- What moves in a row leave is a timetable of the instance, and their writes, which are of the instance too, leave it.
pub record AreTheirWrites (I : Draft) (P : Timetable) (ms : List Move) : Type 0 where
  pub plan : IsPlanOf I (after_all I P ms)
  pub writes : AreWritesOf I (expand_all I P ms)
  pub afterwards : after_all I P ms ≡ put_all (expand_all I P ms) P

abbrev pub SeriesAreTheirWrites : Draft → Type 0
SeriesAreTheirWrites I = (P : Timetable) (ms : List Move) → IsPlanOf I P → AreMoves I ms → AreTheirWrites I P ms

-- What a move does in a row of one is what it does.
pub record IsAlone (I : Draft) (P : Timetable) (m : Move) : Type 0 where
  pub expanded : expand_all I P (m ∷ []) ≡ expand I P m
  pub touched : (c : Cell) → all_touch I P (m ∷ []) c ≡ touches I P m c
  pub numbers : footprint_of_all I P (m ∷ []) ≡ footprint I P m
  pub afterwards : after_all I P (m ∷ []) ≡ after I P m
  pub price : price_of_all I P (m ∷ []) ≡ change_of_bill I P (after I P m)

abbrev pub SinglesAreMoves : Draft → Type 0
SinglesAreMoves I = (P : Timetable) (m : Move) → IsAlone I P m
