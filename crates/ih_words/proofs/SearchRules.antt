-- What the rules of a search say of its matches.
use Rattle.std.proofs.Common.{◌≡◌, ◌≤◌, ℕ, List, Some, codes, le-leb, refl}
use Rattle.std.specs.Prelude.{slice_get}
use Rattle.clap.specs.Words.{App, Row, Rule, Text}
use Rattle.ih_plan.specs.declared.limits.TheConstants.{MAX_HARD, MAX_HEAT, MAX_WORKERS}
use Rattle.ih_journal.specs.declared.settings.TheConstants.{MAX_MOVES}
use Rattle.ih_arguments.specs.Arguments.{numbered_option, seed_option}
use Rattle.ih_arguments.specs.Matches.{HasNumber, number_at}
use Rattle.ih_arguments.specs.Rules.{RequiresNumber}
use Rattle.ih_arguments.proofs.DescriptionRules.{requires_number}
use Rattle.ih_words.specs.Plain.{lawful_plain, lawful_plain_to}
use Rattle.ih_words.specs.SearchOptions.{HasOptions}

-- its options are there, behind three names
pub has_options : {app : App} {rows : List Row} → ((k : ℕ) (rule : Rule) (low high : ℕ) → RequiresNumber app k rule low high → HasNumber low high rule.id rows)
    → slice_get app.top.rules 3 ≡ Some seed_option → slice_get app.top.rules 4 ≡ Some (numbered_option (codes "workers") 1 MAX_WORKERS)
    → slice_get app.top.rules 5 ≡ Some (numbered_option (codes "moves") 0 MAX_MOVES)
    → slice_get app.top.rules 6 ≡ Some (numbered_option (codes "heat") 0 MAX_HEAT)
    → slice_get app.top.rules 7 ≡ Some (numbered_option (codes "hard") 0 MAX_HARD) → HasOptions rows
has_options numbers seed workers moves heat hard = record {
  seed = numbers 3 seed_option 0 18446744073709551615 (requires_number seed);
  workers = numbers 4 (numbered_option (codes "workers") 1 MAX_WORKERS) 1 MAX_WORKERS (requires_number workers);
  moves = numbers 5 (numbered_option (codes "moves") 0 MAX_MOVES) 0 MAX_MOVES (requires_number moves);
  heat = numbers 6 (numbered_option (codes "heat") 0 MAX_HEAT) 0 MAX_HEAT (requires_number heat);
  hard = numbers 7 (numbered_option (codes "hard") 0 MAX_HARD) 0 MAX_HARD (requires_number hard);
}

-- a number that is there is within its limits
pub number-within : (high : ℕ) (id : Text) (rows : List Row) → HasNumber 1 high id rows → (1 ≤ number_at id rows) × (number_at id rows ≤ high)
number-within high id rows has = rw has.1 (has.2.2, has.2.3)

-- so a lawful call has its number there
pub lawful_plain_to-within : (high : ℕ) (id : Text) (rows : List Row) → (1 ≤ number_at id rows) × (number_at id rows ≤ high)
    → lawful_plain_to high id rows ≡ lawful_plain id rows
lawful_plain_to-within high id rows range =
    rw (le-leb 1 (number_at id rows) range.0, le-leb (number_at id rows) high range.1) refl
