use Rattle.std.proofs.Common.{length, ℤ, List}
use Rattle.ih_tables.specs.declared.drafts.Draft.{Draft}
use Rattle.ih_plan.specs.declared.moves.Write.{Write}
use Rattle.ih_parfill.specs.Shares.{HaveFound, IsOfShare}
use Rattle.ih_parfill.proofs.Least.{IsOfFirst}
use Rattle.ih_parfill.proofs.joining.lowest.Given as goal

abbrev pub invariant-loop-w : goal.invariant-loop-w
invariant-loop-w l = (I : Draft) (v : Write → ℤ) (ws : List Write) → HaveFound I v ws (length l.found) l.found → IsOfShare I v ws (IsOfFirst v (length l.found) l.w) l.best
