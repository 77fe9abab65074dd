-- Attempts that change a choice of a day before the freeze day: none of them is accepted.
use Rattle.std.specs.Prelude.{Bool, List}
use Rattle.std.specs.List.{list_any}
use Rattle.ih_plan.specs.declared.moves.Move.{Move}
use Rattle.ih_plan.specs.Frozen.{KeepsFrozen, is_frozen_write}
use Rattle.ih_plan.specs.Timetable.{Timetable}
use Rattle.ih_plan.specs.Series.{expand_all}
use Rattle.ih_journal.specs.Base.{Base}

-- one of the writes of the moves in a row at a timetable is frozen
unfoldable pub is_frozen : Base → Timetable → List Move → Bool
is_frozen b P ms = list_any (is_frozen_write b.start b.freeze) (expand_all b.instance P ms)

-- The timetable agrees with the start on the frozen choices.
abbrev pub AgreesBefore : Base → Timetable → Type 0
AgreesBefore b P = KeepsFrozen b.instance b.start b.freeze P
