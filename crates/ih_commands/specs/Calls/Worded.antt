-- How the words of any command are read.
use Rattle.std.specs.Prelude.{◌≡◌, ◌≢◌, true, List, Option, None}
use Rattle.ih_commands.specs.Below.Arguments.{App, ArgMatches, IsNoHelp, NoCall, OutOfMemory, Row, Text, app_by, is_simple_and_free}
use Rattle.ih_arguments.specs.Rules.{AreMatches, has_independent_rules}
use Rattle.ih_arguments.specs.declared.arguments.Description.{Description}

-- How words give values that stand for a call: the command, as `clap` has it, the call of values, and the call that `clap`'s
-- matches give, if it is lawful.
pub record Wording (Values Call : Type 0) : Type 0 where
  pub app : App
  pub call : Values → Call
  pub lawful : List Row → Option Call

-- The description is the command's, each of whose rules `clap` can read by itself.
pub record IsDescribed (app : App) (d : Description) : Type 0 where
  pub shape : app_by d ≡ app
  pub simple : is_simple_and_free app ≡ true
  pub independent : has_independent_rules app ≡ true

-- `clap` gives these matches of some words
abbrev pub IsMatched : App → ArgMatches → Type 0
IsMatched a m = (words : List Text) × AreMatches a words m

-- what is said where `clap` finds no fault, but the words give no lawful call: it isn't help, and there is no call, unless
-- memory ran out
abbrev pub IsRefusal : {A : Type 0} → Option A → NoCall → Type 0
IsRefusal call e = IsNoHelp e × (e ≢ OutOfMemory → call ≡ None)
