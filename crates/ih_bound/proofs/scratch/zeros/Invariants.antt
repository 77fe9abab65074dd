use Rattle.std.proofs.Common.{◌≡◌, ℕ}
use Rattle.std.specs.Prelude.{slice_index}
use Rattle.ih_bound.proofs.scratch.zeros.Given as goal

abbrev pub invariant-loop : goal.invariant-loop
invariant-loop l = (i : ℕ) → slice_index l.list.items i ≡ 0
