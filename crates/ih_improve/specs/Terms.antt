-- What a search goes by, and its state keeps.
use Rattle.ih_tables.specs.declared.drafts.Draft.{Draft}
use Rattle.ih_plan.specs.Timetable.{Timetable}
use Rattle.ih_improve.specs.Pinned.{PinsState}
use Rattle.ih_improve.specs.declared.settings.Settings.{Settings}

-- the instance, the start, which choices of that stay, and the settings
pub record Terms : Type 0 where
  pub instance : Draft
  pub start : Timetable
  pub pins : PinsState
  pub settings : Settings
