use Rattle.std.proofs.Common.{length}
use Rattle.ih_links.specs.Lists.{list_of}
use Rattle.ih_links.proofs.Walks.{rest_from}
use Rattle.ih_plan.specs.declared.moves.Write.TheVariants.{SetCare}
use Rattle.ih_plan.specs.Writes.{put}
use Rattle.ih_nurses.proofs.CountWalks.{AreMoved}
use Rattle.ih_nurses.proofs.counts.move_counts.Given as goal

-- the persons met so far have the counts of the new choice
abbrev pub invariant-loop-at : goal.invariant-loop-at
invariant-loop-at l =
    AreMoved l.fn.inst.draft l.fn.plan (put (SetCare l.fn.room l.fn.shift l.fn.new) l.fn.plan) (list_of l.fn.persons l.fn.room.0) l.counts l.at

abbrev pub decreases-loop-at : goal.decreases-loop-at
decreases-loop-at l = length (rest_from l.at (list_of l.fn.persons l.fn.room.0))
