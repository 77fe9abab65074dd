-- What is known of a book while a scene is played.
use Rattle.std.specs.Prelude.{◌≡◌}
use Rattle.ih_tables.specs.declared.drafts.Draft.{Draft}
use Rattle.ih_plan.specs.Timetable.{Timetable, IsPlanOf}
use Rattle.ih_journal.specs.Base.{Base}
use Rattle.ih_journal.specs.Settings.{IsLawful}
use Rattle.ih_journal.specs.declared.settings.Options.{Options}

-- the start is a timetable of the instance, and the options are within their limits
abbrev pub IsGiven : Draft → Timetable → Options → Type 0
IsGiven I start options = IsPlanOf I start × IsLawful options

-- the search is over this instance by these options
abbrev pub IsOver : Draft → Options → Base → Type 0
IsOver I options b = (I ≡ b.instance) × (options ≡ b.options)
