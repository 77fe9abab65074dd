-- The command `improve`: its description for `clap`, its values and when they are lawful.
use Rattle.std.specs.Prelude.{ℕ, ◌*◌, ◌≤◌, ◌&&◌, ◌||◌, not, nat_le, Bool, List, ◌∷◌, ◌++◌, Option, Some, None, codes, if◌then◌else◌, option_to_list, unwrap_or}
use Rattle.ih_commands.specs.Below.Wards.{MAX_FREEZE, MAX_HARD, MAX_HEAT, MAX_WORKERS}
use Rattle.ih_commands.specs.Below.Arguments.{App, IsNumberIfGiven, Row, StartCall, all_differ, first_of, flag, flag_at, freezes_a_file, is_given, named, new_app, number_if_given, optional, optional_any, optional_between, optional_number, repeated, start_files, start_in, takes_a_file, text_at, texts_at, with_rule, with_start}
use Rattle.ih_commands.specs.Below.Searches.{MAX_KEEP}
use Rattle.ih_optimizer.specs.Call.{ImproveCall, IsLawfulCall}
use Rattle.ih_optimizer.specs.Pacing.{attempts_of}
use Rattle.ih_commands.specs.declared.command.improve_words.TheConstants.{DEFAULT_ROUNDS, DEFAULT_SECONDS, DEFAULT_SEED, DEFAULT_TIMED_ROUNDS}
use Rattle.ih_optimizer.specs.declared.pacing.Length.{Length}
use Rattle.ih_optimizer.specs.declared.pacing.Length.TheVariants.{Attempts, Seconds}
use Rattle.ih_optimizer.specs.declared.pacing.TheConstants.{MAX_CALL_ATTEMPTS, MAX_CALL_ROUNDS, MAX_SECONDS}

-- improve INSTANCE OUT [--seconds N] [--attempts N] [--seed N] [--workers N]
abbrev pub files_rules : App
files_rules = with_rule (with_rule (with_rule (with_rule (with_rule (with_rule
    (new_app (codes "improve"))
    (named (codes "INSTANCE")))
    (named (codes "OUT")))
    (optional_between (codes "seconds") 1 MAX_SECONDS))
    (optional_any (codes "attempts")))
    (optional_any (codes "seed")))
    (optional_between (codes "workers") 1 MAX_WORKERS)

-- improve INSTANCE OUT [--seconds N] [--attempts N] [--seed N] [--workers N] [--rounds N] [--hot N] [--cold N]
-- [--hard N] [--start F] [--freeze DAY] [--fill] [--empty] [--draft F] [--replace] [--keep N] [--pin ID]..
-- [--pin-nurses] [--bound]
unfoldable pub improve_app : App
improve_app = with_rule (with_rule (with_rule (with_rule (with_rule (with_rule (with_rule (with_start (with_rule (with_rule (with_rule (with_rule files_rules
    (optional_between (codes "rounds") 1 MAX_CALL_ROUNDS))
    (optional_number (codes "hot") MAX_HEAT))
    (optional_number (codes "cold") MAX_HEAT))
    (optional_number (codes "hard") MAX_HARD)))
    (flag (codes "empty")))
    (optional (codes "draft")))
    (flag (codes "replace")))
    (optional_number (codes "keep") MAX_KEEP))
    (repeated (codes "pin")))
    (flag (codes "pin-nurses")))
    (flag (codes "bound"))

-- each option is within the limits of its own: the call is lawful if all workers together make few enough attempts and
-- the temperature doesn't rise
abbrev pub AreOptionsWithin : ImproveCall → Type 0
AreOptionsWithin c =
    attempts_of c.pace.length ≤ MAX_CALL_ATTEMPTS → unwrap_or c.settings.cold 0 ≤ unwrap_or c.settings.hot MAX_HEAT
    → IsLawfulCall c

-- the numbers that the matches of improve give are within their limits
pub record HasImprove (rows : List Row) : Type 0 where
  pub seconds : IsNumberIfGiven 1 MAX_SECONDS (codes "seconds") rows
  pub attempts : IsNumberIfGiven 0 18446744073709551615 (codes "attempts") rows
  pub seed : IsNumberIfGiven 0 18446744073709551615 (codes "seed") rows
  pub workers : IsNumberIfGiven 1 MAX_WORKERS (codes "workers") rows
  pub rounds : IsNumberIfGiven 1 MAX_CALL_ROUNDS (codes "rounds") rows
  pub hot : IsNumberIfGiven 0 MAX_HEAT (codes "hot") rows
  pub cold : IsNumberIfGiven 0 MAX_HEAT (codes "cold") rows
  pub hard : IsNumberIfGiven 0 MAX_HARD (codes "hard") rows
  pub freeze : IsNumberIfGiven 0 MAX_FREEZE (codes "freeze") rows
  pub keep : IsNumberIfGiven 0 MAX_KEEP (codes "keep") rows

-- how long a search goes on: as many attempts as are given, or so many seconds
abbrev pub length_of : Option ℕ → Option ℕ → Length
length_of (Some attempts) seconds = Attempts attempts
length_of None seconds = Seconds (unwrap_or seconds DEFAULT_SECONDS)

-- how many rounds there are where no number is given
abbrev pub default_rounds : Length → ℕ
default_rounds (Attempts n) = DEFAULT_ROUNDS
default_rounds (Seconds s) = DEFAULT_TIMED_ROUNDS

abbrev pub length_in : List Row → Length
length_in rows = length_of (number_if_given (codes "attempts") rows) (number_if_given (codes "seconds") rows)

-- What the search starts from, by `clap`'s matches. Where no file is named for it, it is filled, unless the words say that
-- it isn't.
abbrev pub filled_start_in : List Row → StartCall
filled_start_in rows = record (start_in rows) {
  fill = flag_at (codes "fill") rows || not (is_given (codes "start") rows || flag_at (codes "empty") rows);
}

-- what a change weighs: where no number is given it is by the weights, if the timetable of a file is taken as it is, and
-- else nothing
abbrev pub keep_in : List Row → Option ℕ
keep_in rows = if takes_a_file rows then number_if_given (codes "keep") rows else Some 0

-- the call of improve, by `clap`'s matches
abbrev pub improve_in : List Row → ImproveCall
improve_in rows = record {
  instance = text_at (codes "INSTANCE") rows;
  out = text_at (codes "OUT") rows;
  keeps = not (flag_at (codes "replace") rows);
  pace = record {
    length = length_in rows;
    rounds = unwrap_or (number_if_given (codes "rounds") rows) (default_rounds (length_in rows));
  };
  settings = record {
    seed = unwrap_or (number_if_given (codes "seed") rows) DEFAULT_SEED;
    workers = number_if_given (codes "workers") rows;
    hot = number_if_given (codes "hot") rows;
    cold = number_if_given (codes "cold") rows;
    hard = number_if_given (codes "hard") rows;
    freeze = (start_in rows).freeze;
    keep = keep_in rows;
  };
  start = filled_start_in rows;
  draft = first_of (codes "draft") rows;
  pins = texts_at (codes "pin") rows;
  pin_nurses = flag_at (codes "pin-nurses") rows;
  is_bounded = flag_at (codes "bound") rows;
}

-- the names of the files differ, but for a start that is OUT itself
abbrev pub are_names_apart : ImproveCall → Bool
are_names_apart c =
    all_differ (c.instance ∷ (c.out ∷ option_to_list c.draft))
    && all_differ (c.instance ∷ (start_files c.start ++ option_to_list c.draft))

-- the attempts of all workers are so few, and the temperature doesn't rise
abbrev pub are_settings_lawful : ImproveCall → Bool
are_settings_lawful c =
    (nat_le (attempts_of c.pace.length) MAX_CALL_ATTEMPTS
    && nat_le (unwrap_or c.settings.workers 1 * attempts_of c.pace.length) MAX_CALL_ATTEMPTS)
    && nat_le (unwrap_or c.settings.cold 0) (unwrap_or c.settings.hot MAX_HEAT)

-- changes weigh something, and choices are pinned, only where the timetable of a file is taken as it is
abbrev pub keeps_a_file : List Row → Bool
keeps_a_file rows =
    not (is_given (codes "keep") rows || (is_given (codes "pin") rows || flag_at (codes "pin-nurses") rows))
    || takes_a_file rows

-- no option is given with another that it can't be used with
abbrev pub are_options_apart : List Row → Bool
are_options_apart rows =
    keeps_a_file rows
    && (not (is_given (codes "attempts") rows && is_given (codes "seconds") rows)
    && not (flag_at (codes "empty") rows && (flag_at (codes "fill") rows || is_given (codes "start") rows)))

-- the call of improve, by `clap`'s matches, where its options may be used together, its file names differ, its settings
-- are lawful, and so is its freeze day
abbrev pub lawful_improve : List Row → Option ImproveCall
lawful_improve rows =
    if freezes_a_file rows && (are_options_apart rows
    && (are_names_apart (improve_in rows) && are_settings_lawful (improve_in rows)))
    then Some (improve_in rows) else None
