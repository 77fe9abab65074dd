use Rattle.std.proofs.Common.{◌≡◌, ◌∙◌, ap, sym, subst, true, map}
use Rattle.std.specs.Prelude.{string_bytes}
use Rattle.clap.specs.Words.{App, HasKind, app_of, fault_of, is_simple_and_free, matches_of}
use Rattle.ih_arguments.specs.Arguments.{app_by}
use Rattle.ih_arguments.specs.Matches.{has_no_fault}
use Rattle.ih_arguments.specs.Rules.{Requires, RequiresNumber, TakesNumber, has_independent_rules}
use Rattle.ih_arguments.proofs.Faults.{no_fault_at, simple_of}
use Rattle.ih_arguments.proofs.GivenValues.{given_number, required_number}
use Rattle.ih_arguments.proofs.RequiredValues.{required_text}
use Rattle.ih_arguments.proofs.matches.matched.Goals as goal

pub returns-in-Err-clause-faults : goal.returns-in-Err-clause-faults
returns-in-Err-clause-faults c =
    let is : app_of c.in_ok-command.command ≡ app_by c.args.description.now = c.in_ok-command.ensures in
    let simple = subst (λ (a : App). is_simple_and_free a ≡ true) (sym is) c.requires.simple in
    subst (λ (a : App). HasKind (fault_of a (map string_bytes c.args.words.now)) c.in-Err.error) is (c.in-Err.ensures.kinds simple)

pub returns-in-Ok-clause-matched : goal.returns-in-Ok-clause-matched
returns-in-Ok-clause-matched c =
    let old = c.in_ok-command.command in
    let m = c.in-Ok.matches in
    let is : app_of old ≡ app_by c.args.description.now = c.in_ok-command.ensures in
    let simple = subst (λ (a : App). is_simple_and_free a ≡ true) (sym is) c.requires.simple in
    let independent = subst (λ (a : App). has_independent_rules a ≡ true) (sym is) c.requires.independent in
    record {
      no_fault = ap (λ (a : App). has_no_fault a (map string_bytes c.args.words.now)) (sym is) ∙ no_fault_at (app_of old) _ (c.in-Ok.ensures.kinds simple);
      rows = (c.in-Ok.ensures.matches (simple_of (app_of old) simple)).0 ∙ ap (λ (a : App). matches_of a (map string_bytes c.args.words.now)) is;
      texts = λ k rule requires.
          required_text old m c.in-Ok.ensures.parsed independent k rule (subst (λ (a : App). Requires a k rule) (sym is) requires);
      numbers = λ k rule low high requires.
          required_number old m c.in-Ok.ensures.parsed independent k rule low high (subst (λ (a : App). RequiresNumber a k rule low high) (sym is) requires);
      optional = λ k rule low high takes.
          given_number old m c.in-Ok.ensures.parsed independent k rule low high (subst (λ (a : App). TakesNumber a k rule low high) (sym is) takes);
    }
