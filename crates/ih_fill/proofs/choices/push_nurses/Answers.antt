use Rattle.std.proofs.Common.{◌∙◌, sym, ap, arith, ℕ, List, ◌++◌, append_assoc}
use Rattle.std.specs.Prelude.{flat_map}
use Rattle.std.specs.List.{range_with_len}
use Rattle.ih_tables.specs.Sizes.{room_count}
use Rattle.ih_fill.specs.Choices.{nurses_in}
use Rattle.ih_fill.specs.declared.choices.Choice.{Choice}
use Rattle.ih_fill.proofs.ListLemmas.{flat-more}
use Rattle.ih_fill.proofs.choices.push_nurses.Goals as goal

pub loop-k-preserved : goal.loop-k-preserved
loop-k-preserved c =
    let k = c.loop-k.k in
    let f : ℕ → List Choice = λ k. nurses_in k (room_count c.args.inst.now.draft) in
    let old = c.args.choices.now.items in
    record {
      more = c.in_ok-push_nurses_in.ensures.more
          ∙ (ap (λ cs. cs ++ f k) c.loop-k.invariant.more
          ∙ (append_assoc old (flat_map f (range_with_len 0 k)) (f k) ∙ ap (λ cs. old ++ cs) (sym (flat-more f 0 k k (omega arith)))));
      inside = c.in_ok-push_nurses_in.ensures.inside;
    }
