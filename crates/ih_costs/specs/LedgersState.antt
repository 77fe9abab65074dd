-- What ledgers stand for.
use Rattle.ih_tables.specs.declared.drafts.Draft.{Draft}
use Rattle.ih_plan.specs.Timetable.{Timetable}

-- An instance and a timetable of it.
pub record LedgersState : Type 0 where
  pub instance : Draft
  pub plan : Timetable
