-- The command `check`: its description for `clap`, its values and when they are lawful.
use Rattle.std.specs.Prelude.{List, [], ◌∷◌, Option, Some, None, codes, if◌then◌else◌}
use Rattle.clap.specs.Words.{App, Row, Text}
use Rattle.ih_arguments.specs.Arguments.{files_app}
use Rattle.ih_arguments.specs.Distinct.{all_differ}
use Rattle.ih_arguments.specs.Matches.{text_at}
use Rattle.ih_words.specs.declared.check.Check.{Check}

-- check INSTANCE SOLUTION
unfoldable pub check_app : App
check_app = files_app (codes "check")

-- what a call of check asks for; a file's name is its bytes
pub record CheckCall : Type 0 where
  pub instance : Text
  pub solution : Text

-- the call that the values of check stand for
abbrev pub check_call : Check → CheckCall
check_call c = record { instance = c.instance.now; solution = c.solution.now }

-- the call of check, by `clap`'s matches
abbrev pub check_in : List Row → CheckCall
check_in rows = record { instance = text_at (codes "INSTANCE") rows; solution = text_at (codes "SOLUTION") rows }

-- the files that a call of check reads
abbrev pub check_files : CheckCall → List Text
check_files c = c.instance ∷ c.solution ∷ []

-- the call of check, by `clap`'s matches, where its file names differ
abbrev pub lawful_check : List Row → Option CheckCall
lawful_check rows = if all_differ (check_files (check_in rows)) then Some (check_in rows) else None
