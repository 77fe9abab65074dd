-- The rules of the commands' arguments, for `clap`. What `clap`'s contracts call an app is a command's name
-- with the rules of its arguments, in the order in which they were added.
use Rattle.std.specs.Prelude.{ℕ, Bool, List, [], ◌∷◌, Some, true, codes, map}
use Rattle.clap.specs.Words.{App, Rule, Text, new_app, new_rule, with_rule, with_subcommand}
use Rattle.clap.specs.declared.builder.action.ArgAction.TheVariants.{Append, Set, SetTrue}
use Rattle.ih_arguments.specs.declared.arguments.Argument.{Argument}
use Rattle.ih_arguments.specs.declared.arguments.Description.{Description}
use Rattle.ih_arguments.specs.declared.arguments.Kind.{Kind}
use Rattle.ih_arguments.specs.declared.arguments.Kind.TheVariants.{Named, OptionalNamed, NamedNumber, Number, AnyNumber, Optional, Repeated, OptionalNumber, OptionalAnyNumber, Flag}
use Rattle.clap.specs.declared.builder.value_parser.ValueParser.TheVariants.{Unsigned}

-- a required argument with one value, by its place
abbrev pub named : Text → Rule
named id = record (new_rule id) { required = true; action = Some Set }

-- a value by its place, which may be left out
abbrev pub optional_name : Text → Rule
optional_name id = record (new_rule id) { action = Some Set }

-- a required number of 64 bits, by its place
abbrev pub named_number : Text → Rule
named_number id = record (named id) { parser = Some (Unsigned 0 18446744073709551615) }

-- a required `--id N`, where N is a number from low to high
abbrev pub numbered_option : Text → ℕ → ℕ → Rule
numbered_option id low high = record (named id) { long = Some id; parser = Some (Unsigned low high) }

-- a required `--id N`, where N is any number of 64 bits
abbrev pub any_number_option : Text → Rule
any_number_option id = numbered_option id 0 18446744073709551615

-- `--seed N`
abbrev pub seed_option : Rule
seed_option = any_number_option (codes "seed")

-- `--id VALUE`, which may be left out
abbrev pub optional : Text → Rule
optional id = record (new_rule id) { long = Some id; action = Some Set }

-- `--id VALUE`, any number of times
abbrev pub repeated : Text → Rule
repeated id = record (new_rule id) { long = Some id; action = Some Append }

-- `--id N`, which may be left out, where N is a number from low to high
abbrev pub optional_between : Text → ℕ → ℕ → Rule
optional_between id low high = record (optional id) { parser = Some (Unsigned low high) }

-- `--id N`, which may be left out, where N is a number up to high
abbrev pub optional_number : Text → ℕ → Rule
optional_number id high = optional_between id 0 high

-- `--id N`, which may be left out, where N is any number of 64 bits
abbrev pub optional_any : Text → Rule
optional_any id = optional_between id 0 18446744073709551615

-- the flag `--id`
abbrev pub flag : Text → Rule
flag id = record (new_rule id) { long = Some id; action = Some SetTrue }

-- NAME INSTANCE SOLUTION
abbrev pub files_app : Text → App
files_app name = with_rule (with_rule (new_app name) (named (codes "INSTANCE"))) (named (codes "SOLUTION"))

-- ---- tables of arguments

abbrev rule_of_kind : Kind → Text → Rule
rule_of_kind Named id = named id
rule_of_kind OptionalNamed id = optional_name id
rule_of_kind NamedNumber id = named_number id
rule_of_kind (Number low high) id = numbered_option id low high
rule_of_kind AnyNumber id = any_number_option id
rule_of_kind Optional id = optional id
rule_of_kind Repeated id = repeated id
rule_of_kind (OptionalNumber low high) id = optional_between id low high
rule_of_kind OptionalAnyNumber id = optional_any id
rule_of_kind Flag id = flag id

abbrev pub rule_by : Argument → Rule
rule_by a = rule_of_kind a.kind a.id.now

-- the app with these rules behind its own
abbrev pub with_rules : App → List Rule → App
with_rules app [] = app
with_rules app (r ∷ rs) = with_rules (with_rule app r) rs

-- the app that a table describes
abbrev pub app_by : Description → App
app_by d = with_rules (new_app d.name.now) (map rule_by d.arguments.now)

abbrev pub is_plain_by : Description → Bool
is_plain_by d = (app_by d).top.is_plain

-- the program with these commands behind its own
abbrev pub with_commands : App → List Description → App
with_commands app [] = app
with_commands app (d ∷ ds) = with_commands (with_subcommand app (app_by d).top) ds
