-- The rules of a command's description: what an argument adds to them, and what the rule at a place requires.
use Rattle.std.proofs.Common.{◌≡◌, ◌∙◌, ap, ap₂, ℕ, ◌∷◌, Some, false, true, refl, rules, List, IsTrue}
use Rattle.std.specs.List.{list_all}
use Rattle.std.specs.Prelude.{slice_get}
use Rattle.clap.specs.Built.{AddsArg}
use Rattle.clap.specs.Words.{AddsSubcommand, App, Row, Rule, Text, app_of, rule_of, with_rule, with_subcommand}
use Rattle.clap.specs.declared.builder.arg.Arg.{Arg}
use Rattle.clap.specs.declared.builder.command.Command.{Command}
use Rattle.clap.proofs.SimpleLemmas.{plain_fields}
use Rattle.ih_arguments.specs.Arguments.{app_by, is_plain_by, named_number, numbered_option, optional_between, optional_number}
use Rattle.ih_arguments.specs.declared.arguments.Description.{Description}
use Rattle.ih_arguments.specs.Rules.{Requires, RequiresNumber, TakesNumber}

-- an argument adds its rule
pub adds_rule : {old new : Command} {arg : Arg} {app : App} {rule : Rule} → app_of old ≡ app → AddsArg old arg new → arg.global ≡ false → rule_of arg ≡ rule
    → app_of new ≡ with_rule app rule
adds_rule before added local rule = added.shape local ∙ ap₂ with_rule before rule

-- a plain command is added
pub adds_command : {old sub new : Command} {above below : App} → app_of old ≡ above → app_of sub ≡ below → below.top.is_plain ≡ true
    → AddsSubcommand old sub new → app_of new ≡ with_subcommand above below.top
adds_command {old} {sub} {new} first second plain adds =
    adds.shape (plain_fields sub (ap (λ (a : App). a.top.is_plain) second ∙ plain)).globals
    ∙ ap₂ with_subcommand first (ap (λ (a : App). a.top) second)

pub requires_named_number : {app : App} {k : ℕ} {id : Text} → slice_get app.top.rules k ≡ Some (named_number id)
    → RequiresNumber app k (named_number id) 0 18446744073709551615
requires_named_number place = record {
  value = record { place = place; required = refl; action = refl; range = refl };
  parser = refl;
}

pub requires_number : {app : App} {k : ℕ} {id : Text} {low high : ℕ} → slice_get app.top.rules k ≡ Some (numbered_option id low high)
    → RequiresNumber app k (numbered_option id low high) low high
requires_number place = record {
  value = record { place = place; required = refl; action = refl; range = refl };
  parser = refl;
}

pub takes_between : {app : App} {k : ℕ} {id : Text} {low high : ℕ} → slice_get app.top.rules k ≡ Some (optional_between id low high)
    → TakesNumber app k (optional_between id low high) low high
takes_between place = record { place = place; range = refl; parser = refl }

pub takes_number : {app : App} {k : ℕ} {id : Text} {high : ℕ} → slice_get app.top.rules k ≡ Some (optional_number id high)
    → TakesNumber app k (optional_number id high) 0 high
takes_number place = takes_between place

-- the first of plain commands
pub first-plain : (d : Description) (ds : List Description) → IsTrue (list_all is_plain_by (d ∷ ds)) → (app_by d).top.is_plain ≡ true
first-plain d ds h = search rules

-- and the others
pub others-plain : (d : Description) (ds : List Description) → IsTrue (list_all is_plain_by (d ∷ ds)) → IsTrue (list_all is_plain_by ds)
others-plain d ds h = search rules
