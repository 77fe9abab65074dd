-- How rounds end.
use Rattle.std.specs.Prelude.{◌≡◌, ℕ, ℤ, not, int_lt, Bool, false, List, ◌++◌, length, Option, Some, None, if◌then◌else◌, slice_get}
use Rattle.ih_plan.specs.Timetable.{IsPlanOf, Timetable}
use Rattle.ih_journal.specs.Tried.{tries}
use Rattle.ih_journal.specs.Base.{Base}
use Rattle.ih_journal.specs.History.{plan_at}
use Rattle.ih_rounds.specs.declared.running.Held.{Held}
use Rattle.ih_rounds.specs.declared.running.RoundsEnd.{RoundsEnd}
use Rattle.ih_rounds.specs.declared.running.RoundsEnd.TheVariants.{Found, NoneFound}
use Rattle.ih_rounds.specs.Best.{HaveNone, IsBestOf, cost_in}
use Rattle.ih_rounds.specs.Rounds.{AreRounds, Round, base_in, histories, journals}
use Rattle.ih_rounds.specs.Answers.{Answers, with_answers}

-- So many rounds were searched: the searcher's answers are their histories, and their journals were appended. Each
-- starts from a timetable of the instance.
pub record HaveRun (b : Base) (count : ℕ) (before after : Answers) (old new : List ℕ) : Type 0 where
  pub rounds : List Round
  pub count_is : length rounds ≡ count
  pub legal : AreRounds b rounds
  pub fits : (q : ℕ) (r : Round) → slice_get rounds q ≡ Some r → IsPlanOf b.instance r.start
  pub told : after ≡ with_answers before (histories rounds)
  pub written : new ≡ old ++ journals b.options 0 rounds

-- P is the first cheapest feasible timetable of the rounds, at place k of round q, which has so many entries.
pub record IsFound (b : Base) (rs : List Round) (q k count : ℕ) (P : Timetable) : Type 0 where
  pub best : IsBestOf b rs q k
  pub count_is : count ≡ length best.round.history
  pub plan : P ≡ plan_at (base_in b q best.round) (tries best.round.history) k
  pub fits : IsPlanOf b.instance P

-- what rounds come to
abbrev pub IsEnd : Base → List Round → RoundsEnd → Type 0
IsEnd b rs (Found q k count P) = IsFound b rs q k count P
IsEnd b rs NoneFound = HaveNone b rs

-- how rounds over b end
pub record Ends (b : Base) (count : ℕ) (before after : Answers) (old new : List ℕ) (end : RoundsEnd) : Type 0 where
  pub run : HaveRun b count before after old new
  pub end_is : IsEnd b run.rounds end

-- ---- the best so far

-- it is the best of the rounds so far, with its cost
pub record IsHeld (b : Base) (rs : List Round) (h : Held) : Type 0 where
  pub found : IsFound b rs h.round h.place h.count h.plan
  pub cost : h.cost ≡ cost_in b h.round found.best.round h.place

abbrev pub HoldsBest : Base → List Round → Option Held → Type 0
HoldsBest b rs None = HaveNone b rs
HoldsBest b rs (Some h) = IsHeld b rs h

abbrev pub keeps : Option Held → ℤ → Bool
keeps None cost = false
keeps (Some h) cost = not (int_lt cost h.cost)

-- the best so far, or that of a later round, where it is cheaper
abbrev pub better_of : Option Held → ℕ → Option (ℕ × ℤ) → ℕ → Timetable → Option Held
better_of best q None count P = best
better_of best q (Some own) count P =
    if keeps best own.1 then best else Some (record { round = q; place = own.0; count = count; cost = own.1; plan = P })

abbrev pub end_with : Option Held → RoundsEnd
end_with None = NoneFound
end_with (Some h) = Found h.round h.place h.count h.plan
