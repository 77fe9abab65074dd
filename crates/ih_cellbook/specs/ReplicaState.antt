-- What is seen of a replica.
use Rattle.std.specs.Prelude.{ℕ, List}
use Rattle.ih_plan.specs.Timetable.{Timetable}
use Rattle.ih_journal.specs.Base.{Base}
use Rattle.ih_cellbook.specs.Offered.{Offered}

-- One worker's own copy of a search, as far as it has seen it.
pub record ReplicaState : Type 0 where
  pub base : Base
  pub worker : ℕ
  -- how many entries it stands for
  pub seen : ℕ
  -- the timetable after them
  pub plan : Timetable
  -- each cell's version after them, by number
  pub versions : List ℕ
  -- the offer that it made last
  pub last : Offered
