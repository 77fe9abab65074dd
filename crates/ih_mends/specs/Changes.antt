-- The best replacements of all choices, as they are computed.
use Rattle.std.specs.Prelude.{◌≡◌, List, All, map}
use Rattle.ih_tables.specs.declared.drafts.Draft.{Draft}
use Rattle.ih_plan.specs.declared.limits.TheConstants.{MAX_HARD}
use Rattle.ih_plan.specs.Timetable.{Timetable}
use Rattle.ih_plan.specs.Writes.{IsWriteOf}
use Rattle.ih_fill.specs.declared.candidates.Candidate.{Candidate}
use Rattle.ih_fill.specs.declared.choices.Choice.{Choice}
use Rattle.ih_replacements.specs.Replacements.{best_of}

-- They are those of these choices, and fit the instance.
pub record AreBestChanges (I : Draft) (P : Timetable) (choices : List Choice) (changes : List Candidate)
    : Type 0 where
  pub best : changes ≡ map (best_of I MAX_HARD P) choices
  pub fit : All (λ c. IsWriteOf I c.write) changes
