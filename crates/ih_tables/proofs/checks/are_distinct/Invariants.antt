use Rattle.std.proofs.Common.{◌≢◌, AllPairs, take}
use Rattle.ih_tables.proofs.checks.are_distinct.Given as goal

abbrev pub invariant-loop-i : goal.invariant-loop-i
invariant-loop-i g l = AllPairs (λ x y. g.T.HasId.id x ≢ g.T.HasId.id y) (take l.i l.items)
