-- What a call of why says that ends with the status of an infeasible instance.
use Rattle.std.proofs.Common.{◌≡◌, ◌∙◌, ap, refl, inl, inr, ℕ, Bool, true, false, List, [], ◌++◌, append_assoc, length, Option, None}
use Rattle.std.specs.Prelude.{◌≢◌, if◌then◌else◌}
use Rattle.std.proofs.lemmas.Bool.{eqb-false}
use Rattle.ih_commands.specs.Below.Endings.{Done, Infeasible, IsLeft, IsPerformed, Names, OutcomeState, Status, WriteFault, unsaid}
use Rattle.ih_warnings.specs.Warnings.{warnings}
use Rattle.ih_endings.proofs.Stopping.{unread-only}
use Rattle.ih_commands.specs.Calls.Bound.{judged_status}
use Rattle.ih_commands.specs.Calls.Why.{IsExplained, WhyCall, nothing_text, plan_text_in, says_nothing, why_inputs, why_text}
use Rattle.ih_commands.specs.Laws.{ExplainedCallsHaveNoPlan, HasNoPlan}

-- with such a status there are causes, and they are said
some-said : (causes : List ℕ) (none : Bool) → says_nothing causes ≡ none → Infeasible ≡ judged_status none
    → (causes ≢ []) × ((if none then nothing_text else causes) ≡ causes)
some-said causes true e is = absurd (let clash : Infeasible ≡ Done = is in cc)
some-said causes false e is = (λ empty. eqb-false (length causes) 0 e (ap (λ (xs : List ℕ). length xs) empty), refl)

-- a status that isn't that of an unsaid text
not-unsaid : (works : Bool) (status : Status) → status ≡ judged_status works → Infeasible ≡ unsaid status → ⊥
not-unsaid true status is same = let clash : Infeasible ≡ WriteFault None = same ∙ ap unsaid is in cc
not-unsaid false status is same = let clash : Infeasible ≡ WriteFault None = same ∙ ap unsaid is in cc

module _ (w : WhyCall) (old new : Option Names) (text : List ℕ) where
  performed : IsPerformed (IsExplained w) (why_inputs w) old new Infeasible text → HasNoPlan w old text
  performed p = by_left p.left
    where
      status : p.outcome.status ≡ judged_status (says_nothing p.comes.causes)
      status = ap (λ (o : OutcomeState). o.status) p.comes.said

      by_left : IsLeft p.outcome old new Infeasible text → HasNoPlan w old text
      by_left (inl (written, inl same, said)) =
          let causes = p.comes.causes in
          let found = some-said causes (says_nothing causes) refl (same ∙ status) in
          let waits : List ℕ = plan_text_in w.solution p.given.instance p.given.plan in
          let slips : List ℕ = warnings p.given.instance in
          let more : List ℕ = waits ++ slips in
          record {
            given = p.given;
            read = p.read;
            causes = causes;
            are_causes = p.comes.are_causes;
            some = found.0;
            said = (
              more,
              said ∙ (ap (λ (o : OutcomeState). o.text) p.comes.said
                  ∙ (append_assoc (why_text causes) waits slips ∙ ap (λ (xs : List ℕ). xs ++ more) found.1)),
            );
            none = p.comes.are_causes.hold found.0;
          }
      by_left (inl (written, inr (some, same), said)) =
          absurd (not-unsaid (says_nothing p.comes.causes) p.outcome.status status same)
      by_left (inr stopped) = absurd stopped

pub none-feasible : ExplainedCallsHaveNoPlan
none-feasible w old new text (inl (kept, unread)) = absurd (unread-only old (why_inputs w) Infeasible text unread)
none-feasible w old new text (inr p) = performed w old new text p
