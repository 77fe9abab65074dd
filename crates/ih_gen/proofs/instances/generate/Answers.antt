use Rattle.std.proofs.Common.{◌≤◌, arith}
use Rattle.serde_json.specs.Data.{depth}
use Rattle.serde_json.specs.Read.{max_depth}
use Rattle.ih_solution.proofs.RoundTrip.{if_ok_both}
use Rattle.ih_gen.specs.Generated.{generated_data}
use Rattle.ih_gen.proofs.Accepted.{generated_draft, reads-back}
use Rattle.ih_gen.proofs.Nesting.{generated-depth}
use Rattle.ih_gen.proofs.instances.generate.Goals as goal

pub returns-clause-read : goal.returns-clause-read
returns-clause-read c =
    let seed = c.args.seed in
    let shallow : depth (generated_data seed) ≤ max_depth = (let five = generated-depth seed in omega (arith, five)) in
    if_ok_both c.to_vec.result _ _ _ (λ v utf8 same. (generated_draft seed, reads-back seed v.items utf8 (same shallow))) c.to_vec.ensures.utf8
    (rw c.in_ok-generated_value.ensures at c.to_vec.ensures.reads_back)
