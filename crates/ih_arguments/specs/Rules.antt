-- What the rules of a command's arguments say of its matches.
use Rattle.std.specs.Prelude.{◌≡◌, ℕ, ◌&&◌, not, Bool, true, List, Some, None, [], map, slice_get, codes}
use Rattle.std.specs.List.{list_all}
use Rattle.std.specs.Str.{bytes_eq}
use Rattle.clap.specs.Words.{App, Rule, Text, found_of, matches_of, rows_of}
use Rattle.clap.specs.Simple.{has_simple_rules}
use Rattle.clap.specs.Faults.{has_free_rules}
use Rattle.clap.specs.declared.builder.action.ArgAction.TheVariants.{Set}
use Rattle.clap.specs.declared.builder.value_parser.ValueParser.TheVariants.{Unsigned}
use Rattle.clap.specs.declared.parser.matches.ArgMatches.{ArgMatches}
use Rattle.ih_arguments.specs.Distinct.{all_differ}
use Rattle.ih_arguments.specs.Matches.{HasNumber, HasText, IsNumberIfGiven, has_no_fault}

-- the id is neither empty nor one that `clap` adds by itself
abbrev pub is_unreserved : Text → Bool
is_unreserved id = not (bytes_eq id []) && (not (bytes_eq id (codes "help")) && not (bytes_eq id (codes "version")))

-- no argument has a rule on another, and each has an id of its own
abbrev pub has_independent_rules : App → Bool
has_independent_rules a = has_simple_rules a.top && (has_free_rules a.top && (not a.top.subcommand_negates_reqs
    && (list_all (λ r. is_unreserved r.id) a.top.rules && all_differ (map (λ r. r.id) a.top.rules))))

-- the argument at place k has this rule, by which it is required and has one value
pub record Requires (a : App) (k : ℕ) (rule : Rule) : Type 0 where
  pub place : slice_get a.top.rules k ≡ Some rule
  pub required : rule.required ≡ true
  pub action : rule.action ≡ Some Set
  pub range : rule.range ≡ None

-- the argument at place k has this rule, by which it is required and has one value: a number from low to high
pub record RequiresNumber (a : App) (k : ℕ) (rule : Rule) (low high : ℕ) : Type 0 where
  pub value : Requires a k rule
  pub parser : rule.parser ≡ Some (Unsigned low high)

-- the argument at place k has this rule, by which each value that is given is a number from low to high
pub record TakesNumber (a : App) (k : ℕ) (rule : Rule) (low high : ℕ) : Type 0 where
  pub place : slice_get a.top.rules k ≡ Some rule
  pub range : rule.range ≡ None
  pub parser : rule.parser ≡ Some (Unsigned low high)

-- `clap` finds no fault in the words and gives these matches of them, which have what the rules require
pub record AreMatches (a : App) (words : List Text) (m : ArgMatches) : Type 0 where
  pub no_fault : has_no_fault a words ≡ true
  pub rows : rows_of (found_of m) ≡ matches_of a words
  pub texts : (k : ℕ) (rule : Rule) → Requires a k rule → HasText rule.id (rows_of (found_of m))
  pub numbers : (k : ℕ) (rule : Rule) (low high : ℕ) → RequiresNumber a k rule low high
      → HasNumber low high rule.id (rows_of (found_of m))
  pub optional : (k : ℕ) (rule : Rule) (low high : ℕ) → TakesNumber a k rule low high
      → IsNumberIfGiven low high rule.id (rows_of (found_of m))
