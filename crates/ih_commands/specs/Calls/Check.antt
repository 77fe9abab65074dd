-- The command `check`: its description for `clap`, its values and what it comes to.
use Rattle.std.specs.Prelude.{◌≡◌, List, Option, Some, codes}
use Rattle.ih_commands.specs.Below.Wards.{bill_of, feasible, report}
use Rattle.ih_commands.specs.Below.Arguments.{App, Row, Text, files_app, text_at}
use Rattle.ih_commands.specs.Below.Endings.{Given, InputFiles, OutcomeState, said_files, says}
use Rattle.ih_commands.specs.Calls.Bound.{judged_status}
use Rattle.ih_commands.specs.declared.command.check.Check.{Check}

-- check INSTANCE SOLUTION
unfoldable pub check_app : App
check_app = files_app (codes "check")

-- what a call of check asks for; a file's name is its bytes
pub record CheckCall : Type 0 where
  pub instance : Text
  pub solution : Text

-- the call that the values of check stand for
abbrev pub check_call : Check → CheckCall
check_call c = record { instance = c.instance.now; solution = c.solution.now }

-- the files that the call reads
abbrev pub check_inputs : CheckCall → InputFiles
check_inputs c = said_files c.instance (Some c.solution)

-- the call of check, by `clap`'s matches: each that `clap` finds no fault in is lawful, as it writes no file
abbrev pub lawful_check : List Row → Option CheckCall
lawful_check rows = Some (record { instance = text_at (codes "INSTANCE") rows; solution = text_at (codes "SOLUTION") rows })

-- ---- what it comes to

-- the report on the timetable that the files give is said, with a status by whether no hard rule is broken, and nothing
-- is written
abbrev pub IsChecked : Given → OutcomeState → Type 0
IsChecked g o =
    o ≡ says (judged_status (feasible (bill_of g.instance g.plan))) (report g.instance.weights (bill_of g.instance g.plan))
