-- The command `view`: its description for `clap`, its values and what it comes to.
use Rattle.std.specs.Prelude.{◌≡◌, ◌&&◌, List, [], ◌∷◌, Option, Some, None, codes, if◌then◌else◌, option_and_then, option_map, option_to_list, unwrap_or}
use Rattle.ih_commands.specs.Below.Arguments.{App, Date, DateParts, Row, Text, all_differ, date_parts, files_app, first_of, named, optional, text_at, with_rule}
use Rattle.ih_commands.specs.Below.Endings.{Given, InputFiles, Out, OutcomeState, said_files, writes_one}
use Rattle.ih_page.specs.Page.{HeadingTexts, page_of}
use Rattle.ih_commands.specs.Calls.Days.{date_in, names_a_day}
use Rattle.ih_commands.specs.declared.command.view.View.{View}

-- view INSTANCE SOLUTION PAGE [--from DATE] [--since OLDER] [--title TEXT]
unfoldable pub view_app : App
view_app = with_rule (with_rule (with_rule (with_rule (files_app (codes "view"))
    (named (codes "PAGE")))
    (optional (codes "from")))
    (optional (codes "since")))
    (optional (codes "title"))

-- what a call of view asks for; a file's name is its bytes
pub record ViewCall : Type 0 where
  pub instance : Text
  pub solution : Text
  pub page : Text
  -- the date of the first day
  pub from : Option DateParts
  -- the file of an older solution
  pub since : Option Text
  -- what stands over the page
  pub title : Option Text

-- the call that the values of view stand for
abbrev pub view_call : View → ViewCall
view_call v = record {
  instance = v.instance.now;
  solution = v.solution.now;
  page = v.page.now;
  from = option_map date_parts v.from;
  since = option_map (λ t. t.now) v.since;
  title = option_map (λ t. t.now) v.title;
}

-- the files that the call reads
abbrev pub view_inputs : ViewCall → InputFiles
view_inputs v = record (said_files v.instance (Some v.solution)) { older = v.since }

-- the call of view, by `clap`'s matches
abbrev pub view_in : List Row → ViewCall
view_in rows = record {
  instance = text_at (codes "INSTANCE") rows;
  solution = text_at (codes "SOLUTION") rows;
  page = text_at (codes "PAGE") rows;
  from = option_and_then date_in (first_of (codes "from") rows);
  since = first_of (codes "since") rows;
  title = first_of (codes "title") rows;
}

-- the files that a call of view reads or writes
abbrev pub view_files : ViewCall → List Text
view_files v = v.instance ∷ v.solution ∷ v.page ∷ option_to_list v.since

-- the call of view, by `clap`'s matches, where its file names differ and the date is one
abbrev pub lawful_view : List Row → Option ViewCall
lawful_view rows =
    if names_a_day rows && all_differ (view_files (view_in rows)) then Some (view_in rows) else None

-- ---- what it comes to

-- what stands over the page: the instance's name, where there is no title
abbrev pub heading_of : ViewCall → HeadingTexts
heading_of v = record { title = unwrap_or v.title v.instance; instance = v.instance; solution = v.solution; older = v.since }

-- the page of the timetable that the files give, with the date that is named and what changed since the older one, is
-- written; nothing is said
pub record IsViewed (v : ViewCall) (g : Given) (o : OutcomeState) : Type 0 where
  -- the date of the first day
  pub first : Option Date
  pub from : option_map date_parts first ≡ v.from
  pub page : o ≡ writes_one Out v.page (page_of (heading_of v) g.instance first g.older g.plan) []
