-- What a search starts from.
use Rattle.std.specs.Prelude.{ℕ, Bool, true, false}
use Rattle.ih_tables.specs.declared.drafts.Draft.{Draft}
use Rattle.ih_plan.specs.Timetable.{Timetable}
use Rattle.ih_fill.specs.Fill.{fill}

-- the timetable as it is, or its greedy fill
abbrev pub started : Bool → ℕ → Draft → Timetable → Timetable
started false hard I P = P
started true hard I P = fill I hard P
