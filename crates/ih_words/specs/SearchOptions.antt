-- The options that every search needs, by `clap`'s matches, and what reading a command's words answers.
use Rattle.std.specs.Prelude.{◌≡◌, ℕ, List, Option, Some, None, Result, Ok, Err, codes}
use Rattle.clap.specs.Words.{App, Row, with_rule}
use Rattle.ih_plan.specs.declared.limits.TheConstants.{MAX_HARD, MAX_HEAT, MAX_WORKERS}
use Rattle.ih_journal.specs.declared.settings.Options.{Options}
use Rattle.ih_journal.specs.declared.settings.TheConstants.{MAX_MOVES}
use Rattle.ih_arguments.specs.Arguments.{numbered_option, seed_option}
use Rattle.ih_arguments.specs.Matches.{HasNumber, number_at}
use Rattle.ih_words.specs.declared.error.WordsError.{WordsError}
use Rattle.ih_words.specs.declared.error.WordsError.TheVariants.{Unlawful}

-- what reading words answers: the call that they ask for, or that they are unlawful, and then they ask for none
abbrev pub IsAnswer : {A B : Type 0} → (B → A) → Option A → Result B WordsError → Type 0
IsAnswer call asked (Ok x) = asked ≡ Some (call x)
IsAnswer call asked (Err e) = e ≡ Unlawful → asked ≡ None

-- the app with the options that a search needs
abbrev pub with_options : App → App
with_options app = with_rule (with_rule (with_rule (with_rule (with_rule app
    seed_option)
    (numbered_option (codes "workers") 1 MAX_WORKERS))
    (numbered_option (codes "moves") 0 MAX_MOVES))
    (numbered_option (codes "heat") 0 MAX_HEAT))
    (numbered_option (codes "hard") 0 MAX_HARD)

-- each option that a search needs is there, and within its own limits
pub record HasOptions (rows : List Row) : Type 0 where
  pub seed : HasNumber 0 18446744073709551615 (codes "seed") rows
  pub workers : HasNumber 1 MAX_WORKERS (codes "workers") rows
  pub moves : HasNumber 0 MAX_MOVES (codes "moves") rows
  pub heat : HasNumber 0 MAX_HEAT (codes "heat") rows
  pub hard : HasNumber 0 MAX_HARD (codes "hard") rows

-- the options of a search, by `clap`'s matches, and with so many retries
abbrev pub options_in : List Row → ℕ → Options
options_in rows retries = record {
  seed = number_at (codes "seed") rows;
  workers = number_at (codes "workers") rows;
  moves = number_at (codes "moves") rows;
  heat = number_at (codes "heat") rows;
  hard = number_at (codes "hard") rows;
  retries = retries;
}
