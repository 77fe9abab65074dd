-- Searches that freeze nothing and try no stale move again, and whose journal's length rests on one more number: what
-- `rounds` and `chain` share.
use Rattle.std.specs.Prelude.{◌≡◌, ◌≤◌, ◌&&◌, ◌*◌, ℕ, nat_le, Bool, List, Option, Some, None, codes, if◌then◌else◌}
use Rattle.clap.specs.Words.{App, Row, Text, first_of, with_rule}
use Rattle.ih_journal.specs.Settings.{IsLawful, most_entries}
use Rattle.ih_journal.specs.declared.settings.TheConstants.{MAX_ENTRIES}
use Rattle.ih_arguments.specs.Arguments.{flag, numbered_option, optional}
use Rattle.ih_arguments.specs.Distinct.{all_differ}
use Rattle.ih_arguments.specs.Matches.{flag_at, number_at}
use Rattle.ih_words.specs.Solve.{SolveCall, search_app, search_in, solve_call, solve_files}
use Rattle.ih_words.specs.declared.plain.Plain.{Plain}
use Rattle.ih_words.specs.declared.plain.TheConstants.{MAX_LENGTH, MAX_ROUNDS}
use Rattle.ih_words.specs.declared.solve.Solve.{Solve}

-- NAME INSTANCE OUT JOURNAL --seed N --workers N --moves N --heat N --hard N --ID N [--start F] [--fill]
unfoldable pub plain_app : Text → Text → ℕ → App
plain_app name id high = with_rule (with_rule (with_rule (search_app name)
    (numbered_option id 1 high))
    (optional (codes "start")))
    (flag (codes "fill"))

-- chain: how many moves each chain has is from 1 to 8
abbrev pub chain_app : App
chain_app = plain_app (codes "chain") (codes "length") MAX_LENGTH

-- rounds: how many searches there are is from 1 to 16
abbrev pub rounds_app : App
rounds_app = plain_app (codes "rounds") (codes "rounds") MAX_ROUNDS

-- the options are lawful, no stale move is tried again, and nothing is frozen
pub record IsPlain (s : Solve) : Type 0 where
  pub lawful : IsLawful s.options
  pub once : s.options.retries ≡ 0
  pub unfrozen : s.start.freeze ≡ 0

-- such a search with a number from 1 to `high`: its entries, so many times taken, are at most a million
pub record IsPlainTo (high : ℕ) (p : Plain) : Type 0 where
  pub search : IsPlain p.search
  pub some : 1 ≤ p.number
  pub most : p.number ≤ high
  pub few : most_entries p.search.options * p.number ≤ MAX_ENTRIES

-- what a call of chain or of rounds asks for: the search, and how many moves each chain has, or how many searches there
-- are
pub record PlainCall : Type 0 where
  pub search : SolveCall
  pub number : ℕ

-- the call that the values of chain or of rounds stand for
abbrev pub plain_call : Plain → PlainCall
plain_call p = record { search = solve_call p.search; number = p.number }

-- the search, by `clap`'s matches: nothing is frozen, and no stale move is tried again
abbrev pub plain_search_in : List Row → SolveCall
plain_search_in rows =
    search_in rows 0 (record { file = first_of (codes "start") rows; fill = flag_at (codes "fill") rows; freeze = 0 })

-- the file names of the search differ, and its entries, so many times taken, are at most a million
abbrev pub is_lawful_plain : SolveCall → ℕ → Bool
is_lawful_plain s times = all_differ (solve_files s) && nat_le (most_entries s.options * times) MAX_ENTRIES

-- the call, by `clap`'s matches, where it is lawful
abbrev pub lawful_plain : Text → List Row → Option PlainCall
lawful_plain id rows =
    let call : PlainCall = record { search = plain_search_in rows; number = number_at id rows } in
    if is_lawful_plain call.search call.number then Some call else None

-- the number is from 1 to `high`; the description of the command says so too
abbrev pub is_number_to : ℕ → ℕ → Bool
is_number_to high n = nat_le 1 n && nat_le n high

-- the lawful call, where its number is from 1 to `high`: its file names differ, and its journals have together at most a
-- million entries, or its chains a million moves
abbrev pub lawful_plain_to : ℕ → Text → List Row → Option PlainCall
lawful_plain_to high id rows = if is_number_to high (number_at id rows) then lawful_plain id rows else None

abbrev pub lawful_chain : List Row → Option PlainCall
lawful_chain = lawful_plain_to MAX_LENGTH (codes "length")

abbrev pub lawful_rounds : List Row → Option PlainCall
lawful_rounds = lawful_plain_to MAX_ROUNDS (codes "rounds")

-- What a lawful call is within: nothing is frozen, no stale move is tried again, the number is from 1 to `high`, and
-- the entries, so many times taken, are at most a million.
pub record IsWithin (high : ℕ) (s : SolveCall) (times : ℕ) : Type 0 where
  pub once : s.options.retries ≡ 0
  pub unfrozen : s.start.freeze ≡ 0
  pub some : 1 ≤ times
  pub most : times ≤ high
  pub few : most_entries s.options * times ≤ MAX_ENTRIES
