use Rattle.std.proofs.Common.{◌≤◌}
use Rattle.ih_validate.proofs.AgeLemmas.{AreAges}
use Rattle.ih_validate.proofs.days.age_spread.Given as goal

abbrev pub invariant-loop-x : goal.invariant-loop-x
invariant-loop-x l = record {
  small : l.high ≤ 64;
  ages : AreAges l.inst.draft l.here l.x-index l.found l.low l.high;
}
