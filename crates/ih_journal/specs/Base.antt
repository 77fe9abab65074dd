-- What no step of a search changes. Each definition on histories takes it whole.
use Rattle.std.specs.Prelude.{ℕ}
use Rattle.ih_tables.specs.declared.drafts.Draft.{Draft}
use Rattle.ih_plan.specs.Timetable.{Timetable}
use Rattle.ih_journal.specs.declared.settings.Options.{Options}

pub record Base : Type 0 where
  pub instance : Draft
  pub start : Timetable
  pub options : Options
  -- the first day whose choices may change
  pub freeze : ℕ
