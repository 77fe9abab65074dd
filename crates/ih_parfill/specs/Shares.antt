-- The first least of candidates, by shares.
use Rattle.std.specs.Prelude.{◌≡◌, ℕ, ◌<◌, ◌%◌, ◌⊎◌, ℤ, List, length, Option, Some, None, IfSome, slice_get, slice_index_or}
use Rattle.ih_tables.specs.declared.drafts.Draft.{Draft}
use Rattle.ih_plan.specs.declared.moves.Write.{Write}
use Rattle.ih_plan.specs.Writes.{IsWriteOf}
use Rattle.ih_fill.specs.Candidates.{valued}
use Rattle.ih_fill.specs.FirstLeast.{IsBefore, IsFirstLeast}
use Rattle.ih_parfill.specs.declared.scans.Found.{Found}
use Rattle.ih_parfill.specs.declared.scans.ShareScan.{ShareScan}

-- it is the first least of the candidates at these places, with its value
pub record IsFirstOf (v : Write → ℤ) (ws : List Write) (places : ℕ → Type 0) (f : Found) : Type 0 where
  pub first : IsFirstLeast v ws places f.place f.candidate.write
  pub value : f.candidate ≡ valued v f.candidate.write

-- the first least of the candidates at these places, where there are any
abbrev pub IsLeastOf : (Write → ℤ) → List Write → (ℕ → Type 0) → Option Found → Type 0
IsLeastOf v ws places None = (k : ℕ) (x : Write) → places k → slice_get ws k ≡ Some x → ⊥
IsLeastOf v ws places (Some f) = IsFirstOf v ws places f

-- the share of worker w of n: the places that are w modulo n
abbrev pub IsShare : ℕ → ℕ → ℕ → Type 0
IsShare n w k = k % n ≡ w

-- what a worker has found among the candidates that lie behind it
pub record HasLooked (I : Draft) (v : Write → ℤ) (ws : List Write) (s : ShareScan) : Type 0 where
  pub passed : s.passed ≡ length ws
  pub least : IsLeastOf v ws (IsShare s.workers s.worker) s.best
  pub fits : IfSome s.best (λ f. IsWriteOf I f.candidate.write)

-- the one of two that comes before the other
abbrev pub IsLower : Option Found → Option Found → Option Found → Type 0
IsLower None other r = r ≡ other
IsLower (Some a) None r = r ≡ Some a
IsLower (Some a) (Some b) r = ((r ≡ Some a) × IsBefore a.candidate.value a.place b.candidate.value b.place)
    ⊎ ((r ≡ Some b) × IsBefore b.candidate.value b.place a.candidate.value a.place)

-- what is found in a share: the first least of it, a write of the instance
pub record IsOfShare (I : Draft) (v : Write → ℤ) (ws : List Write) (places : ℕ → Type 0) (o : Option Found)
    : Type 0 where
  pub least : IsLeastOf v ws places o
  pub fits : IfSome o (λ f. IsWriteOf I f.candidate.write)

-- each worker has found what is in its share
pub record HaveFound (I : Draft) (v : Write → ℤ) (ws : List Write) (n : ℕ) (found : List (Option Found)) : Type 0 where
  pub len : length found ≡ n
  pub each : (w : ℕ) (d : Option Found) → w < n → IsOfShare I v ws (IsShare n w) (slice_index_or found w d)
