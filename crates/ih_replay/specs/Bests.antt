-- The best timetable of a history.
use Rattle.std.specs.Prelude.{◌≡◌, ℕ, List, Option, Some, None}
use Rattle.ih_plan.specs.Timetable.{Timetable}
use Rattle.ih_journal.specs.Tried.{Tried}
use Rattle.ih_journal.specs.Base.{Base}
use Rattle.ih_journal.specs.Best.{HasNone, IsBest}
use Rattle.ih_journal.specs.History.{plan_at}

-- the timetable at the place of the best, or none where no timetable of the history is feasible
abbrev pub BestPlanIs : Base → List Tried → Option Timetable → Type 0
BestPlanIs b H None = HasNone b H
BestPlanIs b H (Some P) = (k : ℕ) × IsBest b H k × (P ≡ plan_at b H k)
