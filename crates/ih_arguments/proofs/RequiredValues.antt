-- What the rules of a command's arguments say of its matches: a required value is there.
use Rattle.std.proofs.Common.{◌≡◌, ◌∙◌, ap, sym, ℕ, true, is_some, Option, Some, None, refl}
use Rattle.clap.specs.Built.{IsParsedFrom}
use Rattle.clap.specs.Matches.{first_value, found_of}
use Rattle.clap.specs.Walk.{Rule, Text, first_of, rows_of}
use Rattle.clap.specs.Simple.{app_of}
use Rattle.clap.specs.declared.builder.command.Command.{Command}
use Rattle.clap.specs.declared.parser.matches.ArgMatches.{ArgMatches}
use Rattle.clap.proofs.CallerLemmas.{required_has_value}
use Rattle.clap.proofs.WalkLemmas.{first_value-rows}
use Rattle.ih_arguments.specs.Rules.{Requires, has_independent_rules}
use Rattle.ih_arguments.specs.Matches.{HasText}
use Rattle.ih_arguments.proofs.ArgumentFacts.{argument_of, not_auto, not_nil, ready}

-- a required value is there
pub required_text : (old : Command) (m : ArgMatches) → IsParsedFrom old m → has_independent_rules (app_of old) ≡ true
    → (k : ℕ) (rule : Rule) → Requires (app_of old) k rule → HasText rule.id (rows_of (found_of m))
required_text old m p independent k rule requires =
    let r = ready old independent k rule requires.place requires.range in
    let a = argument_of r in
    let has = required_has_value old m p r.plain r.globals r.negates k r.d r.within (ap (λ (x : Rule). x.required) r.rule_is ∙ requires.required)
    (ap (λ (x : Rule). x.action) r.rule_is ∙ requires.action) r.delim r.least r.unique (not_nil a.id.now r.unreserved) (not_auto a r.unreserved) in
    given (first_of rule.id (rows_of (found_of m)))
    (ap is_some (sym (first_value-rows (found_of m) rule.id)) ∙ ap (λ i. is_some (first_value (found_of m) i)) (sym r.id_is) ∙ has)
  where
    given : (o : Option Text) → is_some o ≡ true → (t : Text) × (o ≡ Some t)
    given None some = cc
    given (Some t) some = (t, refl)
