use Rattle.std.proofs.Common.{◌≡◌, ◌∙◌, ◌++◌, ap, ap₂, subst, Option}
use Rattle.ih_commands.specs.Below.Wards.{Draft}
use Rattle.ih_commands.specs.Below.Endings.{says}
use Rattle.ih_commands.specs.Below.Searches.{HoldsOfAll, Judged, bound_text, no_infeasibility}
use Rattle.ih_bound.proofs.HowFar.{gap-true}
use Rattle.ih_commands.specs.Calls.Bound.{IsToldOf, bound_call, judged_status}
use Rattle.ih_commands.proofs.command.bound.BoundCommand.outcome.Goals as goal

pub returns-clause-comes : goal.returns-clause-comes
returns-clause-comes g c =
    let I = c.args.inputs.inst.value.draft in
    let found = c.in_ok-found.found.outcome in
    let same : c.deref.result.now.draft ≡ I = cc in
    let again : c.deref-2.result.now.draft ≡ I = cc in
    let holds = subst (λ (X : Draft). HoldsOfAll X found) same c.in_ok-found.ensures.holds in
    let none = c.no_infeasibility.ensures ∙ ap (λ (j : Option Judged). no_infeasibility j found) c.judged_of-judged.ensures in
    record {
      outcome = found;
      holds = holds;
      parts = c.in_ok-found.ensures.parts;
      rounds = c.in_ok-found.ensures.rounds;
      gap = gap-true I c.args.inputs.plan found c.requires.plans.plan holds;
      hints = c.in_ok-hints.hints.items;
      told = subst (λ (X : Draft). IsToldOf (bound_call c.args.self.now) X found c.in_ok-hints.hints.items) again c.in_ok-hints.ensures;
      said = c.said.ensures.outcome
          ∙ ap₂ says (c.judged_status-status.ensures.value ∙ ap judged_status none)
          (c.in_ok-text.ensures ∙ ap (λ (j : Option Judged). bound_text j found ++ c.in_ok-hints.hints.items) c.judged_of-judged.ensures);
    }
