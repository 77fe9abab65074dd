-- A timetable, and what writes add to its score.
use Rattle.std.specs.Prelude.{◌≡◌, ◌≤◌, ℕ, ℤ, Bool, true, false}
use Rattle.ih_tables.specs.declared.drafts.Draft.{Draft}
use Rattle.ih_tables.specs.declared.bills.Bill.{Bill}
use Rattle.ih_plan.specs.declared.moves.Write.{Write}
use Rattle.ih_plan.specs.Timetable.{Timetable}
use Rattle.ih_fill.specs.declared.choices.Choice.{Choice}
use Rattle.ih_fill.specs.declared.choices.Choice.TheVariants.{Nurse, Stay}
use Rattle.ih_fill.specs.Fill.{write_score, without_uncovered}
use Rattle.ih_costs.specs.LedgersState.{LedgersState}

-- The instance, the weight of a broken rule in a score, whether rooms without nurses count in what a stay adds, and the
-- timetable.
pub record ScorerState : Type 0 where
  pub instance : Draft
  pub hard : ℕ
  pub counts_uncovered : Bool
  pub plan : Timetable

-- what is seen of a bill where rooms without nurses count, and where they don't
abbrev pub view_of : Bool → Bill → Bill
view_of true = λ b. b
view_of false = without_uncovered

-- the score of what a stay changes in the bill
unfoldable pub stay_value : ScorerState → Write → ℤ
stay_value F w = write_score F.instance F.hard (view_of F.counts_uncovered) F.plan w

-- the score of what a nurse changes in the bill
unfoldable pub care_value : ScorerState → Write → ℤ
care_value F w = write_score F.instance F.hard (λ b. b) F.plan w

-- what a candidate of a choice adds to the score
abbrev pub value_in : ScorerState → Choice → Write → ℤ
value_in F (Stay p) = stay_value F
value_in F (Nurse r k) = care_value F

-- The ledgers are the instance's, and the weight is in its limits.
pub record IsScoring (I : Draft) (hard : ℕ) (ledgers : LedgersState) : Type 0 where
  pub of_instance : ledgers.instance ≡ I
  pub in_limit : hard ≤ 1000000
