-- What a search keeps beside what is seen of it.
use Rattle.std.specs.Prelude.{◌≡◌, List, All, length}
use Rattle.ih_tables.specs.declared.drafts.Draft.{Draft}
use Rattle.ih_plan.specs.Timetable.{Timetable}
use Rattle.ih_improve.specs.declared.comparing.Standing.{Standing}
use Rattle.ih_improve.specs.declared.workers.ImproveWorker.{ImproveWorker}
use Rattle.ih_improve.specs.Better.{standing_of}
use Rattle.ih_improve.specs.Following.{MayStand}
use Rattle.ih_improve.specs.ImproverState.{ImproverState, IsSound, terms_of}
use Rattle.ih_improve.specs.Terms.{Terms}

-- the worker is one of the instance
abbrev pub IsOf : Draft → ImproveWorker → Type 0
IsOf I w = w.walker.instance ≡ I

-- the worker stands on the timetable
abbrev pub StandsOn : Timetable → ImproveWorker → Type 0
StandsOn P w = w.walker.now ≡ P

-- where the worker stands, it may stand
abbrev pub StandsWell : Terms → ImproveWorker → Type 0
StandsWell t w = MayStand t w.walker.now

-- the best timetable that a worker has met
abbrev pub best_met : ImproveWorker → Timetable
best_met w = w.walker.best

-- Beside the search itself, how the best so far stands, and as many workers as the settings say. Each stands where it may
-- go on.
pub record IsKeeping (v : ImproverState) (standing : Standing) (workers : List ImproveWorker) : Type 0 where
  pub sound : IsSound v
  pub standing_is : standing ≡ standing_of (terms_of v) v.kept
  pub count : length workers ≡ v.settings.workers
  pub instance : All (IsOf v.instance) workers
  pub stands : All (StandsWell (terms_of v)) workers
