use Rattle.std.proofs.Common.{◌≤◌, arith}
use Rattle.serde_json.specs.Data.{depth}
use Rattle.serde_json.specs.Read.{max_depth}
use Rattle.ih_solution.specs.Solution.{solution_data}
use Rattle.ih_solution.proofs.Nesting.{solution-depth}
use Rattle.ih_solution.proofs.RoundTrip.{reads-back, if_ok_both}
use Rattle.ih_solution.proofs.writer.write_solution.Goals as goal

pub returns-clause-read_back : goal.returns-clause-read_back
returns-clause-read_back c =
    let I = c.args.inst.now.draft in
    let P = c.args.plan.now in
    let shallow : depth (solution_data I P) ≤ max_depth = (let six = solution-depth I P in omega (arith, six)) in
    if_ok_both c.to_vec.result _ _ _ (λ v utf8 same. reads-back I P v.items c.args.inst.now.valid c.requires utf8 (same shallow)) c.to_vec.ensures.utf8
    (rw c.in_ok-solution_value.ensures at c.to_vec.ensures.reads_back)
