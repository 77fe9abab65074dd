-- What a search starts from, and the first day whose choices it may change: the options `--start F`, `--freeze DAY` and
-- `--fill`.
use Rattle.std.specs.Prelude.{◌&&◌, ◌||◌, not, ℕ, Bool, List, Option, option_map, option_to_list, codes}
use Rattle.clap.specs.Words.{App, Row, Text, first_of, with_rule}
use Rattle.ih_arguments.specs.Arguments.{flag, optional, optional_number}
use Rattle.ih_arguments.specs.Matches.{flag_at, is_given, number_at}
use Rattle.ih_arguments.specs.declared.start.Start.{Start}
use Rattle.ih_plan.specs.declared.limits.TheConstants.{MAX_FREEZE}

-- the app with `--start F`, `--freeze DAY` and `--fill`
abbrev pub with_start : App → App
with_start app = with_rule (with_rule (with_rule app
    (optional (codes "start")))
    (optional_number (codes "freeze") MAX_FREEZE))
    (flag (codes "fill"))

-- what a call names as its start
pub record StartCall : Type 0 where
  -- the file with the timetable; without one it is the empty timetable
  pub file : Option Text
  -- the timetable is filled before the search
  pub fill : Bool
  -- the first day whose choices may change; 0 where none is given
  pub freeze : ℕ

abbrev pub start_call : Start → StartCall
start_call s = record { file = option_map (λ t. t.now) s.file; fill = s.fill; freeze = s.freeze }

-- the start, by `clap`'s matches
abbrev pub start_in : List Row → StartCall
start_in rows = record {
  file = first_of (codes "start") rows;
  fill = flag_at (codes "fill") rows;
  freeze = number_at (codes "freeze") rows;
}

-- the file of the start, where one is named
abbrev pub start_files : StartCall → List Text
start_files s = option_to_list s.file

-- the timetable of a file is taken as it is
abbrev pub takes_a_file : List Row → Bool
takes_a_file rows = is_given (codes "start") rows && not (flag_at (codes "fill") rows)

-- a freeze day is given only there
abbrev pub freezes_a_file : List Row → Bool
freezes_a_file rows = not (is_given (codes "freeze") rows) || takes_a_file rows
