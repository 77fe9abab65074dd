use Rattle.std.proofs.Common.{◌≡◌, ℕ, ◌≤◌, ◌*◌}
use Rattle.ih_plan.specs.Sums.{sum_below}
use Rattle.ih_validate.specs.Surgery.{AreOperated}
use Rattle.ih_validate.proofs.surgery.sum_days.Given as goal

abbrev pub invariant-loop-d : goal.invariant-loop-d
invariant-loop-d g l = record {
  sum :
      (f : ℕ → ℕ)
      → ((d : ℕ) (ps : _) (x : ℕ) → AreOperated l.inst.draft l.plan l.resource d ps.now → goal.F-post g l.each d ps x → x ≡ f d)
      → l.sum ≡ sum_below l.d f;
  bound : l.sum ≤ l.d * l.most;
}
