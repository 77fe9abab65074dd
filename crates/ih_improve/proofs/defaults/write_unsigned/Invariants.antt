use Rattle.std.proofs.Common.{◌≡◌, ◌<◌, ℕ, get_or, unsigned_abs}
use Rattle.ih_tables.specs.Bills.{at}
use Rattle.ih_improve.proofs.defaults.write_unsigned.Given as goal

abbrev pub invariant-loop-k : goal.invariant-loop-k
invariant-loop-k l = record { written : (k : ℕ) → k < l.k → get_or l.to k 0 ≡ unsigned_abs (at l.from k) }
