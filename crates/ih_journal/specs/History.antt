-- Histories: the timetable after some entries, and the versions of a cell.
use Rattle.std.specs.Prelude.{ℕ, ◌+◌, ◌&&◌, ◌||◌, Bool, true, false, List, [], ◌∷◌, take, if◌then◌else◌}
use Rattle.ih_tables.specs.declared.drafts.Draft.{Draft}
use Rattle.ih_tables.specs.declared.cells.Cell.{Cell}
use Rattle.ih_plan.specs.Timetable.{Timetable}
use Rattle.ih_plan.specs.Sums.{bit}
use Rattle.ih_plan.specs.Series.{after_all, all_touch}
use Rattle.ih_journal.specs.Tried.{Tried}
use Rattle.ih_journal.specs.declared.entries.Verdict.{Verdict}
use Rattle.ih_journal.specs.declared.entries.Verdict.TheVariants.{Accepted}
use Rattle.ih_journal.specs.Base.{Base}

abbrev pub is_accepted : Verdict → Bool
is_accepted Accepted = true
is_accepted v = false

-- the timetable after an entry
abbrev pub after_entry : Draft → Timetable → Tried → Timetable
after_entry I P e = if is_accepted e.verdict then after_all I P e.moves else P

-- the timetable after entries that follow P
unfoldable pub after_entries : Draft → Timetable → List Tried → Timetable
after_entries I P [] = P
after_entries I P (e ∷ es) = after_entries I (after_entry I P e) es

-- the timetable after the whole list of entries
abbrev pub plan_after : Base → List Tried → Timetable
plan_after b H = after_entries b.instance b.start H

-- the timetable after the first k entries
abbrev pub plan_at : Base → List Tried → ℕ → Timetable
plan_at b H k = plan_after b (take k H)

-- an entry at timetable P is accepted and touches the cell
abbrev pub touches_accepted : Draft → Timetable → Tried → Cell → Bool
touches_accepted I P e c = is_accepted e.verdict && all_touch I P e.moves c

-- some of the entries that follow P is accepted and touches the cell
unfoldable pub touched_since : Draft → Timetable → List Tried → Cell → Bool
touched_since I P [] c = false
touched_since I P (e ∷ es) c = touches_accepted I P e c || touched_since I (after_entry I P e) es c

-- how many of the entries that follow P are accepted and touch the cell
unfoldable pub touches_since : Draft → Timetable → List Tried → Cell → ℕ
touches_since I P [] c = 0
touches_since I P (e ∷ es) c = bit (touches_accepted I P e c) + touches_since I (after_entry I P e) es c

-- the version of a cell after the whole list
abbrev pub version : Base → List Tried → Cell → ℕ
version b H c = touches_since b.instance b.start H c
