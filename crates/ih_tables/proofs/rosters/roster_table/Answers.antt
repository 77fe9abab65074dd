use Rattle.std.proofs.Common.{◌∙◌}
use Rattle.ih_tables.proofs.RosterLemmas.{rosters_more}
use Rattle.ih_tables.proofs.rosters.roster_table.Goals as goal

pub loop-shift-preserved : goal.loop-shift-preserved
loop-shift-preserved c =
    c.in_ok-push.ensures.items ∙ rw c.in_ok-working.ensures (rosters_more c.args.draft.now c.loop-shift.shift c.loop-shift.rosters.items c.loop-shift.invariant)
