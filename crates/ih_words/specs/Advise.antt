-- The command `advise`: its description for `clap`, its values and when they are lawful.
use Rattle.std.specs.Prelude.{ℕ, ◌≤◌, List, [], ◌∷◌, Option, Some, None, codes, if◌then◌else◌}
use Rattle.clap.specs.Words.{App, Row, Text, with_rule}
use Rattle.ih_plan.specs.declared.limits.TheConstants.{MAX_HARD, MAX_WORKERS}
use Rattle.ih_arguments.specs.Arguments.{files_app, numbered_option}
use Rattle.ih_arguments.specs.Distinct.{all_differ}
use Rattle.ih_arguments.specs.Matches.{HasNumber, number_at, text_at}
use Rattle.ih_words.specs.declared.advise.Advise.{Advise}

-- advise INSTANCE SOLUTION --hard N --workers N
unfoldable pub advise_app : App
advise_app = with_rule (with_rule (files_app (codes "advise"))
    (numbered_option (codes "hard") 0 MAX_HARD))
    (numbered_option (codes "workers") 1 MAX_WORKERS)

-- what a call of advise asks for; a file's name is its bytes
pub record AdviseCall : Type 0 where
  pub instance : Text
  pub solution : Text
  pub hard : ℕ
  pub workers : ℕ

-- the call that the values of advise stand for
abbrev pub advise_call : Advise → AdviseCall
advise_call a = record { instance = a.instance.now; solution = a.solution.now; hard = a.hard; workers = a.workers }

-- the options are within their limits
pub record IsLawfulAdvise (a : Advise) : Type 0 where
  pub hard : a.hard ≤ MAX_HARD
  pub some : 1 ≤ a.workers
  pub few : a.workers ≤ MAX_WORKERS

-- the options are there, and within their limits
pub record HasAdvise (rows : List Row) : Type 0 where
  pub hard : HasNumber 0 MAX_HARD (codes "hard") rows
  pub workers : HasNumber 1 MAX_WORKERS (codes "workers") rows

-- the call of advise, by `clap`'s matches
abbrev pub advise_in : List Row → AdviseCall
advise_in rows = record {
  instance = text_at (codes "INSTANCE") rows;
  solution = text_at (codes "SOLUTION") rows;
  hard = number_at (codes "hard") rows;
  workers = number_at (codes "workers") rows;
}

-- the files that a call of advise reads
abbrev pub advise_files : AdviseCall → List Text
advise_files a = a.instance ∷ a.solution ∷ []

-- the call of advise, by `clap`'s matches, where its file names differ
abbrev pub lawful_advise : List Row → Option AdviseCall
lawful_advise rows = if all_differ (advise_files (advise_in rows)) then Some (advise_in rows) else None
