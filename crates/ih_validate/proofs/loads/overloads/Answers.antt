use Rattle.std.proofs.Common.{rules, ◌≡◌, ◌∙◌, ℕ}
use Rattle.ih_tables.specs.Sizes.{shift_count, nurse_count}
use Rattle.ih_tables.specs.Works.{max_load}
use Rattle.ih_plan.specs.BillOf.{overloads}
use Rattle.ih_plan.specs.Costs.{load_of, overload}
use Rattle.ih_plan.specs.Sums.{sum_below}
use Rattle.ih_plan.proofs.SumBounds.{sum_below-swap}
use Rattle.ih_validate.proofs.loads.overloads.Goals as goal

pub returns-clause-value : goal.returns-clause-value
unfolding overloads
returns-clause-value c =
    let each : ℕ → ℕ → ℕ = λ k n. overload (max_load c.args.inst.now.draft n k) (load_of c.args.inst.now.draft c.args.plan.now n k) in
    let whole : c.shifts.result ≡ shift_count c.args.inst.now.draft = search rules in
    c.sum_below.ensures.sum (λ k. sum_below (nurse_count c.args.inst.now.draft) (each k)) (search rules)
    ∙ rw whole (sum_below-swap (shift_count c.args.inst.now.draft) (nurse_count c.args.inst.now.draft) each)
