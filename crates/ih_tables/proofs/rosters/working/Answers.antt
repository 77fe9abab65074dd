use Rattle.std.proofs.Common.{◌∙◌, ap, rules}
use Rattle.ih_tables.proofs.RosterLemmas.{working_more, working_same}
use Rattle.ih_tables.proofs.rosters.working.Goals as goal
use Rattle.ih_tables.proofs.rosters.working.Goals.{then-is_some+in_ok-push, else-is_some}

pub loop-n-preserved : goal.loop-n-preserved
loop-n-preserved c = elim c.if-is_some.branch [
  | then-is_some+in_ok-push w ↦
      ap (λ v. v.items) w.nurses-is ∙ w.in_ok-push.ensures.items
      ∙ working_more c.args.draft.now c.args.shift c.loop-n.n c.loop-n.nurses.items c.loop-n.invariant (search rules)
  | else-is_some w ↦
      ap (λ v. v.items) w.nurses-is
      ∙ working_same c.args.draft.now c.args.shift c.loop-n.n c.loop-n.nurses.items c.loop-n.invariant (search rules)
]
