use Rattle.std.proofs.Common.{◌≡◌, IfSome, take}
use Rattle.ih_plan.specs.declared.limits.TheConstants.{MAX_HARD}
use Rattle.ih_plan.specs.Writes.{IsWriteOf}
use Rattle.ih_replacements.specs.Replacements.{value_of}
use Rattle.ih_mends.specs.Mends.{lowers}
use Rattle.ih_mends.proofs.Keeping.{kept}
use Rattle.ih_mends.proofs.mending.mend.Given as goal

abbrev pub invariant-loop-i : goal.invariant-loop-i
invariant-loop-i l = record {
  least : l.best ≡ kept (value_of l.inst.draft MAX_HARD l.scorer.plan) (lowers l.inst.draft l.scorer.plan l.rule) (take l.i l.changes);
  fits : IfSome l.best (λ c. IsWriteOf l.inst.draft c.write);
}
