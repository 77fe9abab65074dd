-- A worker on its way.
use Rattle.std.specs.Prelude.{◌≡◌, Bool, ◌&&◌, not, if◌then◌else◌}
use Rattle.ih_tables.specs.declared.bills.Bill.{Bill}
use Rattle.ih_tables.specs.declared.drafts.Draft.{Draft}
use Rattle.ih_plan.specs.Timetable.{Timetable, IsPlanOf}
use Rattle.ih_plan.specs.BillOf.{bill_of}
use Rattle.ih_costs.specs.LedgersState.{LedgersState}
use Rattle.ih_improve.specs.Following.{MayStand}
use Rattle.ih_improve.specs.Legs.{LegState, terms_of_leg}

-- Where a worker stands, and the best timetable that it has met.
pub record WalkerState : Type 0 where
  pub instance : Draft
  pub now : Timetable
  pub best : Timetable

-- the best: where the worker stands, or else the best that it has left
abbrev pub best_at : Bool → Timetable → Timetable → Timetable
best_at stands_on_best now left_best = if stands_on_best then now else left_best

-- The best left once the worker goes on: where it stood, if that was the best and isn't bettered. It is out of date
-- while the worker stands on the best.
abbrev pub left_best_with : Bool → Bool → Timetable → Timetable → Timetable
left_best_with stands_on_best is_bettered now left_best = if stands_on_best && not is_bettered then now else left_best

-- the bills that a worker keeps are those of the timetable where it stands and of the best
pub record AreBills (I : Draft) (l : LedgersState) (left_best : Timetable) (stands_on_best : Bool)
    (bill best_bill : Bill) : Type 0 where
  pub instance : l.instance ≡ I
  pub now : IsPlanOf I l.plan
  pub left_best_fits : IsPlanOf I left_best
  pub bill_is : bill ≡ bill_of I l.plan
  pub best_is : best_bill ≡ bill_of I (best_at stands_on_best l.plan left_best)

-- on its way in a round a worker stands where it may, and so it does on its best
pub record IsUnderway (s : LegState) (w : WalkerState) : Type 0 where
  pub instance : w.instance ≡ s.instance
  pub now : MayStand (terms_of_leg s) w.now
  pub best : MayStand (terms_of_leg s) w.best
