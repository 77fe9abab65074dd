-- What a shelf of real files counts.
use Rattle.std.specs.Prelude.{ℕ}

-- the failures of the file system, in reads and in writes
pub record FaultCounts : Type 0 where
  pub reads : ℕ
  pub writes : ℕ
