-- How a call of rounds ends: as one of solve, with the journals of all rounds and the best of all their timetables.
use Rattle.std.specs.Prelude.{◌≡◌, ℕ, List, ◌++◌, Option, Some, None, codes, decimal, length, slice_get}
use Rattle.ih_top.specs.Below.Wards.{Bill, Draft, IsPlanOf, Timetable, Weights, bill_of, report, solution}
use Rattle.ih_top.specs.Below.Arguments.{PlainCall}
use Rattle.ih_top.specs.Below.Endings.{Names, Status}
use Rattle.ih_top.specs.Below.Searches.{AreExact, AreRounds, Base, Entry, Found, HaveNone, IsBestOf, IsFull, NoneFound, Options, Round, RoundsEnd, base_in, base_with, journals, plan_at, tries}
use Rattle.ih_top.specs.declared.output.BestOutput.{BestOutput}
use Rattle.ih_top.specs.Searches.{SearchEnds, SearchForm, solution_at}

-- the place of the best among the entries of its round
abbrev pub round_line : ℕ → ℕ → ℕ → List ℕ
round_line round place entries =
    codes "best "
    ++ (decimal place
    ++ (codes " of " ++ (decimal entries ++ (codes " in round " ++ (decimal round ++ codes "\n")))))

abbrev pub round_report : ℕ → ℕ → ℕ → Weights → Bill → List ℕ
round_report round place entries w b = round_line round place entries ++ report w b

-- the timetable of the best, where there is one, is one of the instance's
abbrev pub FitsEnd : Draft → RoundsEnd → Type 0
FitsEnd I (Found round place count P) = IsPlanOf I P
FitsEnd I NoneFound = Unit {0}

-- the solution of the best, where there is one, and what is said of it
abbrev pub IsRoundSaid : Draft → RoundsEnd → Option BestOutput → Type 0
IsRoundSaid I (Found round place count P) (Some o) =
    (o.solution.items ≡ solution I P) × (o.text.items ≡ round_report round place count I.weights (bill_of I P))
IsRoundSaid I NoneFound None = Unit {0}
IsRoundSaid I end o = ⊥

-- a full history of a search in which nothing is frozen
abbrev pub IsFullFrom : Draft → Timetable → Options → List Entry → Type 0
IsFullFrom I P o H = IsFull (base_with I P o 0) 1 (tries H)

-- ---- what rounds make to be written and said

-- the place of the best in round q, and the report on its timetable
abbrev pub round_text : Base → ℕ → Round → ℕ → List ℕ
round_text b q r k = round_report q k (length r.history) b.instance.weights
    (bill_of b.instance (plan_at (base_in b q r) (tries r.history) k))

-- the solution file of the timetable at place k of round q
abbrev pub solution_in : Base → ℕ → Round → ℕ → List ℕ
solution_in b q r k = solution_at (base_in b q r) (tries r.history) k

-- each accepted price of each round is the change of the bill at its own place
abbrev pub HaveExactPrices : Base → List Round → Type 0
HaveExactPrices b rs = (q : ℕ) (s : Round) → slice_get rs q ≡ Some s → AreExact (base_in b q s) (tries s.history)

-- so many rounds over a base: each history is full over its start, and each accepted price is the change of the bill at
-- its own place
pub record AreRoundsOf (count : ℕ) (b : Base) (rs : List Round) : Type 0 where
  pub count_is : length rs ≡ count
  pub legal : AreRounds b rs
  pub exact : HaveExactPrices b rs

-- a place in a round
pub record Spot : Type 0 where
  pub number : ℕ
  pub round : Round
  pub place : ℕ

-- the first cheapest feasible timetable of all rounds is there
pub record IsBestSpot (b : Base) (rs : List Round) (p : Spot) : Type 0 where
  pub best : IsBestOf b rs p.number p.place
  pub round : best.round ≡ p.round

-- searches in so many rounds, with the journals of all and the best of all
abbrev pub of_rounds : ℕ → SearchForm (List Round) Spot
of_rounds count = record {
  is_made = λ b rs. AreRoundsOf count b rs;
  journal = λ o rs. journals o 0 rs;
  has_none = λ b rs. HaveNone b rs;
  is_best = λ b rs p. IsBestSpot b rs p;
  solution = λ b rs p. solution_in b p.number p.round p.place;
  said = λ b rs p. round_text b p.number p.round p.place;
}

-- how a call of rounds ends
abbrev pub RoundsEnds : PlainCall → Option Names → Option Names → Status → List ℕ → Type 0
RoundsEnds r old new status text = SearchEnds (of_rounds r.number) r.search old new status text
