-- The laws of footprints.
use Rattle.std.specs.Prelude.{◌≡◌, Bool, true, false, List}
use Rattle.ih_tables.specs.declared.drafts.Draft.{Draft}
use Rattle.ih_tables.specs.declared.cells.Cell.{Cell}
use Rattle.ih_plan.specs.declared.moves.Write.{Write}
use Rattle.ih_plan.specs.declared.moves.Move.{Move}
use Rattle.ih_plan.specs.Timetable.{Timetable, IsPlanOf}
use Rattle.ih_plan.specs.Writes.{put, put_all, IsWriteOf, AreWritesOf}
use Rattle.ih_plan.specs.Expand.{expand, after, IsMoveOf}
use Rattle.ih_plan.specs.BillOf.{change_of_bill}
use Rattle.ih_plan.specs.Cells.{IsCellOf, content_of}
use Rattle.ih_plan.specs.Footprint.{write_touches, writes_touch, touches, footprint}
use Rattle.ih_plan.specs.Series.{AreMoves, after_all, all_touch, expand_all, footprint_of_all, price_of_all}

-- ---- what is outside a footprint stays

-- Making a write changes no content outside its footprint.
abbrev pub WritesKeepTheRest : Draft → Type 0
WritesKeepTheRest I = (P : Timetable) (w : Write) (c : Cell) → IsPlanOf I P → IsWriteOf I w → IsCellOf I c
    → write_touches I P w c ≡ false → content_of I (put w P) c ≡ content_of I P c

-- Nor do writes in a row outside theirs.
abbrev pub WritesInARowKeepTheRest : Draft → Type 0
WritesInARowKeepTheRest I = (P : Timetable) (ws : List Write) (c : Cell)
    → IsPlanOf I P → AreWritesOf I ws → IsCellOf I c → writes_touch I P ws c ≡ false
    → content_of I (put_all ws P) c ≡ content_of I P c

-- Nor does a move.
abbrev pub MovesKeepTheRest : Draft → Type 0
MovesKeepTheRest I = (P : Timetable) (m : Move) (c : Cell) → IsPlanOf I P → IsMoveOf I m → IsCellOf I c
    → touches I P m c ≡ false → content_of I (after I P m) c ≡ content_of I P c

-- ---- what is done rests on the footprint's contents alone

-- the second timetable has the contents of the first in each cell that passes
abbrev pub AreSameOn : Draft → (Cell → Bool) → Timetable → Timetable → Type 0
AreSameOn I passes P Q = (c : Cell) → IsCellOf I c → passes c ≡ true → content_of I Q c ≡ content_of I P c

-- A write touches the same cells at Q as at P, and a cell with one content before has one content after.
pub record IsLocalWrite (I : Draft) (P Q : Timetable) (w : Write) : Type 0 where
  pub touched : (c : Cell) → IsCellOf I c → write_touches I Q w c ≡ write_touches I P w c
  pub afterwards : (c : Cell) → IsCellOf I c → content_of I Q c ≡ content_of I P c
      → content_of I (put w Q) c ≡ content_of I (put w P) c

-- A write does at Q what it does at P where both have the same contents on its footprint.
abbrev pub WritesAreLocal : Draft → Type 0
WritesAreLocal I = (P Q : Timetable) (w : Write) → IsPlanOf I P → IsPlanOf I Q → IsWriteOf I w
    → AreSameOn I (write_touches I P w) P Q → IsLocalWrite I P Q w

-- Writes in a row touch the same cells at Q as at P, and each cell that passes has one content after them.
pub record AreLocalWrites (I : Draft) (P Q : Timetable) (ws : List Write) (passes : Cell → Bool) : Type 0 where
  pub touched : (c : Cell) → IsCellOf I c → writes_touch I Q ws c ≡ writes_touch I P ws c
  pub afterwards : AreSameOn I passes (put_all ws P) (put_all ws Q)

-- Writes in a row do at Q what they do at P where both have the same contents on cells among which the footprint is.
abbrev pub WritesInARowAreLocal : Draft → Type 0
WritesInARowAreLocal I = (P Q : Timetable) (ws : List Write) (passes : Cell → Bool)
    → IsPlanOf I P → IsPlanOf I Q → AreWritesOf I ws → AreSameOn I passes P Q
    → ((c : Cell) → IsCellOf I c → writes_touch I P ws c ≡ true → passes c ≡ true) → AreLocalWrites I P Q ws passes

-- What a move does at Q is what it does at P: its writes, its footprint, the contents after it there, and its price.
pub record IsLocal (I : Draft) (P Q : Timetable) (m : Move) : Type 0 where
  pub expanded : expand I Q m ≡ expand I P m
  pub touched : (c : Cell) → IsCellOf I c → touches I Q m c ≡ touches I P m c
  pub numbers : footprint I Q m ≡ footprint I P m
  pub afterwards : AreSameOn I (touches I P m) (after I P m) (after I Q m)
  pub price : change_of_bill I Q (after I Q m) ≡ change_of_bill I P (after I P m)

-- A move does at Q what it does at P where both have the same contents on its footprint.
abbrev pub MovesAreLocal : Draft → Type 0
MovesAreLocal I = (P Q : Timetable) (m : Move) → IsPlanOf I P → IsPlanOf I Q → IsMoveOf I m
    → AreSameOn I (touches I P m) P Q → IsLocal I P Q m

-- ---- moves in a row

-- Moves in a row change no content outside their footprint.
abbrev pub SeriesKeepTheRest : Draft → Type 0
SeriesKeepTheRest I = (P : Timetable) (ms : List Move) (c : Cell) → IsPlanOf I P → AreMoves I ms → IsCellOf I c
    → all_touch I P ms c ≡ false → content_of I (after_all I P ms) c ≡ content_of I P c

-- What moves in a row do at Q is what they do at P: their writes, their footprint, the contents after them on the cells
-- that pass, and their price.
pub record AreLocal (I : Draft) (P Q : Timetable) (ms : List Move) (passes : Cell → Bool) : Type 0 where
  pub expanded : expand_all I Q ms ≡ expand_all I P ms
  pub touched : (c : Cell) → IsCellOf I c → all_touch I Q ms c ≡ all_touch I P ms c
  pub numbers : footprint_of_all I Q ms ≡ footprint_of_all I P ms
  pub afterwards : AreSameOn I passes (after_all I P ms) (after_all I Q ms)
  pub price : price_of_all I Q ms ≡ price_of_all I P ms

-- Moves in a row do at Q what they do at P where both have the same contents on cells among which the footprint is.
abbrev pub SeriesAreLocal : Draft → Type 0
SeriesAreLocal I = (P Q : Timetable) (ms : List Move) (passes : Cell → Bool)
    → IsPlanOf I P → IsPlanOf I Q → AreMoves I ms → AreSameOn I passes P Q
    → ((c : Cell) → IsCellOf I c → all_touch I P ms c ≡ true → passes c ≡ true)
    → AreLocal I P Q ms passes
