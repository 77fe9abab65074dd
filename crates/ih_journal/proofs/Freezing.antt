-- What moves off the frozen choices leave: the timetable agrees with the start on them as before.
use Rattle.std.proofs.Common.{◌≡◌, refl, sym, subst, Bool, true, false, List}
use Rattle.std.specs.Prelude.{if◌then◌else◌}
use Rattle.ih_plan.specs.declared.moves.Move.{Move}
use Rattle.ih_plan.specs.Timetable.{Timetable, IsPlanOf}
use Rattle.ih_plan.proofs.Freezing.{agrees-put_all, start-agrees}
use Rattle.ih_plan.proofs.Series.{after_all-writes, expand_all-writes}
use Rattle.ih_plan.specs.Series.{AreMoves, after_all, expand_all}
use Rattle.ih_journal.specs.Tried.{Tried}
use Rattle.ih_journal.specs.Base.{Base}
use Rattle.ih_journal.specs.Frozen.{AgreesBefore, is_frozen}
use Rattle.ih_journal.specs.History.{after_entry, is_accepted}

pub agrees-start : (b : Base) → AgreesBefore b b.start
agrees-start b = start-agrees b.instance b.start b.freeze

-- moves in a row of which none is frozen keep the frozen choices
pub agrees-moves : (b : Base) (P : Timetable) (ms : List Move) → IsPlanOf b.instance P → AreMoves b.instance ms → AgreesBefore b P → is_frozen b P ms ≡ false
    → AgreesBefore b (after_all b.instance P ms)
unfolding is_frozen
agrees-moves b P ms plan fits agrees free =
    subst (AgreesBefore b) (sym (after_all-writes b.instance P ms))
    (agrees-put_all b.instance b.start b.freeze P (expand_all b.instance P ms) plan (expand_all-writes b.instance P ms plan fits) agrees free)

-- an entry whose move is accepted only where it isn't frozen
pub agrees-entry : (b : Base) (P : Timetable) (e : Tried) → IsPlanOf b.instance P → AreMoves b.instance e.moves → AgreesBefore b P
    → (is_accepted e.verdict ≡ true → is_frozen b P e.moves ≡ false) → AgreesBefore b (after_entry b.instance P e)
agrees-entry b P e plan fits agrees free = by_case (is_accepted e.verdict) free
  where
    by_case : (c : Bool) → (c ≡ true → is_frozen b P e.moves ≡ false) → AgreesBefore b (if c then after_all b.instance P e.moves else P)
    by_case true free = agrees-moves b P e.moves plan fits agrees (free refl)
    by_case false free = agrees
