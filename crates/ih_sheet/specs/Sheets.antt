-- The tables of a timetable as texts: comma-separated values, or a calendar.
use Rattle.std.specs.Prelude.{◌≡◌, ℕ, List, ◌∷◌, Option, Some, None}
use Rattle.std.specs.List.{flat_map}
use Rattle.std.specs.Option.{option_map_or}
use Rattle.csv.specs.Writing.{default_writer, row_text}
use Rattle.jiff.specs.Types.{Date}
use Rattle.ih_tables.specs.declared.drafts.Draft.{Draft}
use Rattle.ih_plan.specs.Timetable.{Timetable}
use Rattle.ih_sheet.specs.declared.subjects.Subject.{Subject}
use Rattle.ih_sheet.specs.declared.subjects.Subject.TheVariants.{Calendar, Nurses, Patients, Rooms, Theatres}
use Rattle.ih_sheet.specs.Calendar.{calendar_text}
use Rattle.ih_sheet.specs.Dates.{AreDates}
use Rattle.ih_sheet.specs.Rows.{Row, nurse_heading, nurse_rows, patient_heading, patient_rows, room_heading, room_rows, surgery_heading, surgery_rows}

-- the rows, each with its line feed: what a reader of comma-separated values takes for these rows
abbrev pub sheet_text : List Row → List ℕ
sheet_text rows = flat_map (row_text default_writer) rows

-- the heading, and the rows of the subject; a calendar has none
abbrev pub rows_of : Subject → Draft → List (Option Date) → Timetable → Option (List Row)
rows_of Patients I dates P = Some (patient_heading ∷ patient_rows I dates P)
rows_of Nurses I dates P = Some (nurse_heading ∷ nurse_rows I dates P)
rows_of Rooms I dates P = Some (room_heading ∷ room_rows I dates P)
rows_of Theatres I dates P = Some (surgery_heading ∷ surgery_rows I dates P)
rows_of Calendar I dates P = None

-- the rows, or else the calendar
abbrev pub table_text : Subject → Draft → List (Option Date) → Timetable → List ℕ
table_text of I dates P = option_map_or sheet_text (rows_of of I dates P) (calendar_text I dates P)

-- the text is the table of the subject, where the first day has this date
pub record IsTable (of : Subject) (I : Draft) (first : Option Date) (P : Timetable) (text : List ℕ) : Type 0 where
  pub dates : List (Option Date)
  pub dated : AreDates first I.days dates
  pub is : text ≡ table_text of I dates P
