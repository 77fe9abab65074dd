-- The best timetable of all rounds: the first of the cheapest feasible ones, by round, then by place.
use Rattle.std.specs.Prelude.{◌≡◌, ℕ, ◌<◌, ◌≤◌, ◌⊎◌, ℤ, ◌≤ℤ◌, ◌<ℤ◌, List, length, Some, slice_get}
use Rattle.ih_journal.specs.Tried.{tries}
use Rattle.ih_journal.specs.Base.{Base}
use Rattle.ih_journal.specs.Best.{IsFeasibleAt, HasNone, cost_at}
use Rattle.ih_rounds.specs.Rounds.{Round, base_in}

-- the timetable at place k of round q is feasible
abbrev pub IsFeasibleIn : Base → ℕ → Round → ℕ → Type 0
IsFeasibleIn b q r k = IsFeasibleAt (base_in b q r) (tries r.history) k

-- what it costs
abbrev pub cost_in : Base → ℕ → Round → ℕ → ℤ
cost_in b q r k = cost_at (base_in b q r) (tries r.history) k

-- place j of round p comes before place k of round q
abbrev pub ComesBefore : ℕ → ℕ → ℕ → ℕ → Type 0
ComesBefore p j q k = (p < q) ⊎ ((p ≡ q) × (j < k))

-- Place k of round q has a feasible timetable, none of any round is cheaper, and each that comes before costs more.
pub record IsBestOf (b : Base) (rs : List Round) (q k : ℕ) : Type 0 where
  pub round : Round
  pub is : slice_get rs q ≡ Some round
  pub place : k ≤ length round.history
  pub works : IsFeasibleIn b q round k
  pub cheapest : (p j : ℕ) (s : Round) → slice_get rs p ≡ Some s → j ≤ length s.history → IsFeasibleIn b p s j
      → cost_in b q round k ≤ℤ cost_in b p s j
  pub first : (p j : ℕ) (s : Round) → slice_get rs p ≡ Some s → j ≤ length s.history → IsFeasibleIn b p s j
      → ComesBefore p j q k
      → cost_in b q round k <ℤ cost_in b p s j

-- no timetable of any round is feasible
abbrev pub HaveNone : Base → List Round → Type 0
HaveNone b rs = (q : ℕ) (r : Round) → slice_get rs q ≡ Some r → HasNone (base_in b q r) (tries r.history)
