-- Which timetable may take the place of another in a search.
use Rattle.std.specs.Prelude.{◌≡◌, true, pos, ◌*◌, ℤ, ◌+ℤ◌, ◌≤ℤ◌}
use Rattle.ih_tables.specs.declared.drafts.Draft.{Draft}
use Rattle.ih_tables.specs.Bills.{cost, feasible}
use Rattle.ih_plan.specs.Timetable.{Timetable, IsPlanOf}
use Rattle.ih_plan.specs.BillOf.{bill_of}
use Rattle.ih_plan.specs.Frozen.{KeepsFrozen}
use Rattle.ih_improve.specs.Better.{counted_changes}
use Rattle.ih_improve.specs.Pinned.{KeepsPinned}
use Rattle.ih_improve.specs.Terms.{Terms}

-- where P is feasible, so is Q, and it costs at most as much
pub record IsNoDearer (I : Draft) (P Q : Timetable) : Type 0 where
  pub works : feasible (bill_of I P) ≡ true → feasible (bill_of I Q) ≡ true
  pub cheap : feasible (bill_of I P) ≡ true → cost I.weights (bill_of I Q) ≤ℤ cost I.weights (bill_of I P)

-- the cost of a timetable, and the points of its changes
abbrev pub whole_cost : Terms → Timetable → ℤ
whole_cost t P = cost t.instance.weights (bill_of t.instance P) +ℤ pos (t.settings.keep * counted_changes t P)

-- where P is feasible, so is Q, and it costs at most as much with the points of its changes
pub record IsNoWorse (t : Terms) (P Q : Timetable) : Type 0 where
  pub works : feasible (bill_of t.instance P) ≡ true → feasible (bill_of t.instance Q) ≡ true
  pub cheap : feasible (bill_of t.instance P) ≡ true → whole_cost t Q ≤ℤ whole_cost t P

-- a worker may stand on P: it fits the instance, and keeps the start's choices that are before the freeze day or pinned
pub record MayStand (t : Terms) (P : Timetable) : Type 0 where
  pub plan : IsPlanOf t.instance P
  pub frozen : KeepsFrozen t.instance t.start t.settings.freeze P
  pub pinned : KeepsPinned t.instance t.start t.pins P

-- P may take the place of another timetable in a search over a start: a worker may stand on it, and it is no worse
pub record MayFollow (t : Terms) (from P : Timetable) : Type 0 where
  pub stands : MayStand t P
  pub no_worse : IsNoWorse t from P
