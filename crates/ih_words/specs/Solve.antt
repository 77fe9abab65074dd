-- The command `solve`: its description for `clap`, its values and when they are lawful.
use Rattle.std.specs.Prelude.{◌&&◌, nat_le, ℕ, Bool, List, ◌∷◌, Option, Some, None, codes, if◌then◌else◌}
use Rattle.clap.specs.Words.{App, Row, Text, new_app, with_rule}
use Rattle.ih_arguments.specs.Arguments.{named, optional_number}
use Rattle.ih_words.specs.SearchOptions.{with_options}
use Rattle.ih_arguments.specs.Distinct.{all_differ}
use Rattle.ih_arguments.specs.Matches.{number_at, text_at}
use Rattle.ih_words.specs.SearchOptions.{options_in}
use Rattle.ih_arguments.specs.Start.{StartCall, freezes_a_file, start_call, start_files, start_in, with_start}
use Rattle.ih_journal.specs.Settings.{most_entries}
use Rattle.ih_journal.specs.declared.settings.Options.{Options}
use Rattle.ih_journal.specs.declared.settings.TheConstants.{MAX_ENTRIES, MAX_RETRIES}
use Rattle.ih_words.specs.declared.solve.Solve.{Solve}

-- NAME INSTANCE OUT JOURNAL --seed N --workers N --moves N --heat N --hard N
abbrev pub search_app : Text → App
search_app name = with_options (with_rule (with_rule (with_rule (new_app name)
    (named (codes "INSTANCE"))) (named (codes "OUT"))) (named (codes "JOURNAL")))

-- solve INSTANCE OUT JOURNAL --seed N --workers N --moves N --heat N --hard N [--retries N] [--start F]
-- [--freeze DAY] [--fill]
unfoldable pub solve_app : App
solve_app = with_start (with_rule (search_app (codes "solve")) (optional_number (codes "retries") MAX_RETRIES))

-- what a call of solve asks for; a file's name is its bytes
pub record SolveCall : Type 0 where
  pub instance : Text
  pub out : Text
  pub journal : Text
  pub options : Options
  pub start : StartCall

-- the call that the values of solve stand for
abbrev pub solve_call : Solve → SolveCall
solve_call s = record {
  instance = s.instance.now;
  out = s.out.now;
  journal = s.journal.now;
  options = s.options;
  start = start_call s.start;
}

-- a search by `clap`'s matches, with so many retries and from this start
abbrev pub search_in : List Row → ℕ → StartCall → SolveCall
search_in rows retries start = record {
  instance = text_at (codes "INSTANCE") rows;
  out = text_at (codes "OUT") rows;
  journal = text_at (codes "JOURNAL") rows;
  options = options_in rows retries;
  start = start;
}

-- the call of solve, by `clap`'s matches; without `--retries` a stale move isn't tried again
abbrev pub solve_in : List Row → SolveCall
solve_in rows = search_in rows (number_at (codes "retries") rows) (start_in rows)

-- the files that a call of solve reads or writes
abbrev pub solve_files : SolveCall → List Text
solve_files s = s.instance ∷ s.out ∷ s.journal ∷ start_files s.start

-- the file names of the call differ, and its journal has at most a million entries
abbrev pub is_lawful_solve : SolveCall → Bool
is_lawful_solve s = all_differ (solve_files s) && nat_le (most_entries s.options) MAX_ENTRIES

-- the call of solve, by `clap`'s matches, where it is lawful, and so is its freeze day
abbrev pub lawful_solve : List Row → Option SolveCall
lawful_solve rows = if freezes_a_file rows && is_lawful_solve (solve_in rows) then Some (solve_in rows) else None
