use Rattle.std.proofs.Common.{◌≡◌, ◌∙◌, sym, ap, arith, ℕ, ◌+◌, ◌<◌, ◌∷◌, ◌++◌, [], append_assoc}
use Rattle.std.proofs.lemmas.List.{append-nil}
use Rattle.std.proofs.lemmas.List.Elements.{All-push, All-same}
use Rattle.ih_tables.specs.Sizes.{patient_count}
use Rattle.ih_plan.specs.Sums.{which_below}
use Rattle.ih_fill.specs.Choices.{IsChoiceOf, stay_choices}
use Rattle.ih_fill.specs.Fill.{is_waiting}
use Rattle.ih_fill.specs.declared.choices.Choice.{Choice}
use Rattle.ih_fill.specs.declared.choices.Choice.TheVariants.{Stay}
use Rattle.ih_fill.proofs.ListLemmas.{which-more, which-same}
use Rattle.ih_fill.proofs.choices.push_waiting.Goals as goal
use Rattle.ih_fill.proofs.choices.push_waiting.Goals.{then-is_waiting+in_ok-push, else-is_waiting}

pub loop-p-init : goal.loop-p-init
unfolding which_below
loop-p-init c = record { more = sym (append-nil c.args.choices.now.items); inside = c.requires.inside }

pub loop-p-preserved : goal.loop-p-preserved
loop-p-preserved c =
    let I = c.args.inst.now.draft in
    let p = c.loop-p.p in
    let f : ℕ → Choice = λ p. Stay (record { 0 = p }) in
    let old = c.args.choices.now.items in
    let waits = is_waiting I c.args.plan.now c.args.mandatory in
    let before = c.loop-p.invariant in
    let below = c.loop-p-test.true in
    let count = c.patients-p-end.ensures in
    let inside : p < patient_count I = omega (arith, below, count) in
    elim c.if-is_waiting.branch [
      | then-is_waiting+in_ok-push w ↦
          let more : stay_choices (which_below (p + 1) waits) ≡ stay_choices (which_below p waits) ++ f p ∷ [] = which-more f p waits (sym c.is_waiting.ensures ∙ w.if-is_waiting.true) in
          rw w.choices-is (record {
            more = w.in_ok-push.ensures.items
                ∙ (ap (λ cs. cs ++ f p ∷ []) before.more
                ∙ (append_assoc old (stay_choices (which_below p waits)) (f p ∷ []) ∙ ap (λ cs. old ++ cs) (sym more)));
            inside = All-same (IsChoiceOf I) _ _ w.in_ok-push.ensures.items (All-push (IsChoiceOf I) _ (f p) before.inside inside);
          })
      | else-is_waiting w ↦
          let same : stay_choices (which_below (p + 1) waits) ≡ stay_choices (which_below p waits) = which-same f p waits (sym c.is_waiting.ensures ∙ w.if-is_waiting.false) in
          rw w.choices-is (record { more = before.more ∙ ap (λ cs. old ++ cs) (sym same); inside = before.inside })
    ]
