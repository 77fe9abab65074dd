-- What readers make of tables.
use Rattle.std.specs.Prelude.{◌≡◌, ℕ, Bool, true, List, Option, IfSome, nat_lt}
use Rattle.std.specs.List.{list_all}
use Rattle.csv.specs.Reading.{AreRecords, default_config, strip_bom}
use Rattle.csv.specs.declared.parser.State.TheVariants.{StartRecord}
use Rattle.jiff.specs.Types.{Date}
use Rattle.ih_tables.specs.declared.drafts.Draft.{Draft}
use Rattle.ih_plan.specs.Timetable.{Timetable}
use Rattle.ih_sheet.specs.declared.subjects.Subject.{Subject}
use Rattle.ih_sheet.specs.Calendar.{calendar_lines}
use Rattle.ih_sheet.specs.Rows.{Row}
use Rattle.ih_sheet.specs.Sheets.{rows_of, sheet_text}

-- a reader of comma-separated values gives back the heading and the rows, field by field, and nothing else
abbrev pub TableReadsBack : Subject → Draft → List (Option Date) → Timetable → Type 0
TableReadsBack of I dates P =
    IfSome (rows_of of I dates P) (λ rows. AreRecords default_config StartRecord (strip_bom (sheet_text rows)) rows)

-- each byte of the text is above 31: it has no line feed and no carriage return
abbrev pub is_plain : List ℕ → Bool
is_plain text = list_all (nat_lt 31) text

-- each part of each line of the calendar is such: only its end ends a line
abbrev pub NothingEndsALine : Draft → List (Option Date) → Timetable → Type 0
NothingEndsALine I dates P = list_all (λ (line : Row). list_all is_plain line) (calendar_lines I dates P) ≡ true
