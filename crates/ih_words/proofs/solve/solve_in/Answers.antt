use Rattle.std.proofs.Common.{◌≡◌, ℕ, ◌≤◌, arith, refl, codes, Option, Some, None}
use Rattle.std.specs.Option.{option_map_or}
use Rattle.clap.specs.Words.{IsUnsignedIn, Text, found_of, one_of, rows_of}
use Rattle.ih_journal.specs.declared.settings.TheConstants.{MAX_RETRIES}
use Rattle.ih_arguments.specs.Matches.{number_of}
use Rattle.ih_words.proofs.solve.solve_in.Goals as goal

-- a number that may be left out is at most what it may be
number-most : (o : Option Text) (high : ℕ) → ((t : Text) → o ≡ Some t → IsUnsignedIn 0 high t) → option_map_or number_of o 0 ≤ high
number-most None high h = omega arith
number-most (Some t) high h = (h t refl).3

pub search_in-requires-clause-retries : goal.search_in-requires-clause-retries
search_in-requires-clause-retries c =
    rw c.optional_u32_of-retries.ensures (number-most (one_of (codes "retries") (rows_of (found_of c.args.matches.now))) MAX_RETRIES c.requires.retries)
