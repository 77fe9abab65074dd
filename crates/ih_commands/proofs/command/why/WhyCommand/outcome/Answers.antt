use Rattle.std.proofs.Common.{◌≡◌, ◌∙◌, ap, ap₂, subst, ℕ, List}
use Rattle.ih_commands.specs.Below.Wards.{Draft}
use Rattle.ih_commands.specs.Below.Endings.{says}
use Rattle.ih_commands.specs.Calls.Bound.{judged_status}
use Rattle.ih_commands.specs.Calls.Why.{AreCauses, says_nothing}
use Rattle.ih_commands.proofs.command.why.WhyCommand.outcome.Goals as goal

pub returns-clause-comes : goal.returns-clause-comes
returns-clause-comes g c =
    let I = c.args.inputs.inst.value.draft in
    let same : c.deref.result.now.draft ≡ I = cc in
    let causes : List ℕ = c.in_ok-causes.causes.items in
    let none = c.says_nothing.ensures ∙ ap says_nothing c.as_slice.ensures.value in
    record {
      causes = causes;
      are_causes = subst (λ (X : Draft). AreCauses X causes) same c.in_ok-causes.ensures;
      said = c.said.ensures.outcome
          ∙ ap₂ says (c.judged_status-status.ensures.value ∙ ap judged_status none) c.in_ok-text.ensures;
    }
