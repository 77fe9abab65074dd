use Rattle.std.proofs.Common.{arith, ℕ, ◌<◌}
use Rattle.std.proofs.lemmas.List.Elements.{All-push, All-same}
use Rattle.ih_tables.specs.Sizes.{room_count}
use Rattle.ih_fill.specs.Choices.{IsChoiceOf}
use Rattle.ih_fill.specs.declared.choices.Choice.{Choice}
use Rattle.ih_fill.specs.declared.choices.Choice.TheVariants.{Nurse}
use Rattle.ih_fill.proofs.ListLemmas.{push-more}
use Rattle.ih_fill.proofs.choices.push_nurses_in.Goals as goal

pub loop-r-preserved : goal.loop-r-preserved
loop-r-preserved c =
    let I = c.args.inst.now.draft in
    let r = c.loop-r.r in
    let f : ℕ → Choice = λ r. Nurse (record { 0 = r }) c.args.shift in
    let below = c.loop-r-test.true in
    let count = c.rooms-r-end.ensures in
    let inside : r < room_count I = omega (arith, below, count) in
    record {
      more = push-more c.args.choices.now.items _ _ f r c.loop-r.invariant.more c.in_ok-push.ensures.items;
      inside = All-same (IsChoiceOf I) _ _ c.in_ok-push.ensures.items (All-push (IsChoiceOf I) _ (f r) c.loop-r.invariant.inside (inside, c.requires.shift));
    }
