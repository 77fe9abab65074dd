use Rattle.std.proofs.Common.{arith, ℕ, ◌<◌}
use Rattle.std.proofs.lemmas.List.Elements.{All-push, All-same}
use Rattle.ih_tables.specs.Sizes.{patient_count}
use Rattle.ih_fill.specs.Choices.{IsChoiceOf}
use Rattle.ih_fill.specs.declared.choices.Choice.{Choice}
use Rattle.ih_fill.specs.declared.choices.Choice.TheVariants.{Stay}
use Rattle.ih_fill.proofs.ListLemmas.{push-more}
use Rattle.ih_fill.proofs.choices.push_stays.Goals as goal

pub loop-p-preserved : goal.loop-p-preserved
loop-p-preserved c =
    let I = c.args.inst.now.draft in
    let p = c.loop-p.p in
    let f : ℕ → Choice = λ p. Stay (record { 0 = p }) in
    let below = c.loop-p-test.true in
    let count = c.patients-p-end.ensures in
    let inside : p < patient_count I = omega (arith, below, count) in
    record {
      more = push-more c.args.choices.now.items _ _ f p c.loop-p.invariant.more c.in_ok-push.ensures.items;
      inside = All-same (IsChoiceOf I) _ _ c.in_ok-push.ensures.items (All-push (IsChoiceOf I) _ (f p) c.loop-p.invariant.inside inside);
    }
