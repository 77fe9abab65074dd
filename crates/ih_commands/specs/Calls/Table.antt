-- The command `table`: its description for `clap`, its values and what it comes to.
use Rattle.std.specs.Prelude.{◌≡◌, ◌&&◌, ◌||◌, ℕ, Bool, true, false, not, List, [], ◌∷◌, Option, Some, None, codes, if◌then◌else◌, is_some, option_and_then, option_map, unwrap_or}
use Rattle.std.specs.Option.{option_map_or}
use Rattle.std.specs.Str.{bytes_eq}
use Rattle.ih_commands.specs.Below.Arguments.{App, Date, DateParts, Row, Text, all_differ, date_parts, files_app, first_of, named, optional, text_at, with_rule}
use Rattle.ih_commands.specs.Below.Endings.{Given, InputFiles, Out, OutcomeState, said_files, writes_one}
use Rattle.ih_sheet.specs.declared.subjects.Subject.{Subject}
use Rattle.ih_sheet.specs.declared.subjects.Subject.TheVariants.{Calendar, Nurses, Patients, Rooms, Theatres}
use Rattle.ih_sheet.specs.Sheets.{IsTable}
use Rattle.ih_commands.specs.Calls.Days.{date_in, names_a_day}
use Rattle.ih_commands.specs.declared.command.table.Table.{Table}

-- table INSTANCE SOLUTION OUT [--from DATE] [--of SUBJECT]
unfoldable pub table_app : App
table_app = with_rule (with_rule (with_rule (files_app (codes "table"))
    (named (codes "OUT")))
    (optional (codes "from")))
    (optional (codes "of"))

-- what a call of table asks for; a file's name is its bytes
pub record TableCall : Type 0 where
  pub instance : Text
  pub solution : Text
  pub out : Text
  -- the date of the first day
  pub from : Option DateParts
  -- what the table is about
  pub of : Subject

-- the call that the values of table stand for
abbrev pub table_call : Table → TableCall
table_call t = record {
  instance = t.instance.now;
  solution = t.solution.now;
  out = t.out.now;
  from = option_map date_parts t.from;
  of = t.of;
}

-- the files that the call reads
abbrev pub table_inputs : TableCall → InputFiles
table_inputs t = said_files t.instance (Some t.solution)

-- the subject that a word names, if it names one
abbrev pub subject_in : Text → Option Subject
subject_in word =
    if bytes_eq word (codes "patients") then Some Patients
    else (if bytes_eq word (codes "nurses") then Some Nurses
    else (if bytes_eq word (codes "rooms") then Some Rooms
    else (if bytes_eq word (codes "theatres") then Some Theatres
    else (if bytes_eq word (codes "calendar") then Some Calendar
    else None))))

-- the subject that the word of `--of` names, if it names one: patients, where there is no word
abbrev pub subject_at : List Row → Option Subject
subject_at rows = option_map_or subject_in (first_of (codes "of") rows) (Some Patients)

-- the call of table, by `clap`'s matches
abbrev pub table_in : List Row → TableCall
table_in rows = record {
  instance = text_at (codes "INSTANCE") rows;
  solution = text_at (codes "SOLUTION") rows;
  out = text_at (codes "OUT") rows;
  from = option_and_then date_in (first_of (codes "from") rows);
  of = unwrap_or (subject_at rows) Patients;
}

-- the files that a call of table reads or writes
abbrev pub table_files : TableCall → List Text
table_files t = t.instance ∷ t.solution ∷ t.out ∷ []

-- all that is there of the subject has a date
abbrev pub needs_dates : Subject → Bool
needs_dates Patients = false
needs_dates Nurses = false
needs_dates Rooms = false
needs_dates Theatres = false
needs_dates Calendar = true

-- the first day has its date, where there would be nothing without
abbrev pub has_dates : TableCall → Bool
has_dates t = is_some t.from || not (needs_dates t.of)

-- the words of `--from` and `--of` name a day and a subject, where there are such words, and the first is there for a
-- calendar
abbrev pub has_table_words : List Row → Bool
has_table_words rows = names_a_day rows && (is_some (subject_at rows) && has_dates (table_in rows))

-- the call of table, by `clap`'s matches, where its file names differ and its words are such
abbrev pub lawful_table : List Row → Option TableCall
lawful_table rows =
    if has_table_words rows && all_differ (table_files (table_in rows)) then Some (table_in rows) else None

-- ---- what it comes to

-- the table of the timetable that the files give, with the dates from the one that is named on, is written; nothing is
-- said
pub record IsTabled (t : TableCall) (g : Given) (o : OutcomeState) : Type 0 where
  -- the date of the first day
  pub first : Option Date
  pub from : option_map date_parts first ≡ t.from
  pub text : List ℕ
  pub table : IsTable t.of g.instance first g.plan text
  pub written : o ≡ writes_one Out t.out text []
