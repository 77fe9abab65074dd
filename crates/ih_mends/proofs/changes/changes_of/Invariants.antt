use Rattle.std.proofs.Common.{take}
use Rattle.ih_mends.specs.Changes.{AreBestChanges}
use Rattle.ih_mends.proofs.changes.changes_of.Given as goal

abbrev pub invariant-loop-i : goal.invariant-loop-i
invariant-loop-i l = AreBestChanges l.inst.draft l.scorer.plan (take l.i l.choices) l.changes.items
