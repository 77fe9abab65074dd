use Rattle.std.proofs.Common.{length}
use Rattle.ih_tables.specs.Sizes.{person_count}
use Rattle.ih_links.specs.Lists.{list_of}
use Rattle.ih_links.proofs.Walks.{rest_from}
use Rattle.ih_plan.specs.Presence.{workload_of}
use Rattle.ih_nurses.proofs.WalkLemmas.{IsSumWalk}
use Rattle.ih_nurses.proofs.rooms.workload_in.Given as goal

abbrev pub invariant-loop-at : goal.invariant-loop-at
invariant-loop-at l = IsSumWalk (person_count l.fn.inst.draft) 100000 (workload_of l.fn.inst.draft l.fn.plan l.fn.shift.0) (list_of l.fn.persons l.fn.room.0) l.sum l.at

abbrev pub decreases-loop-at : goal.decreases-loop-at
decreases-loop-at l = length (rest_from l.at (list_of l.fn.persons l.fn.room.0))
