use Rattle.std.proofs.Common.{◌≡◌, map}
use Rattle.ih_plan.specs.Presence.{is_present}
use Rattle.ih_plan.specs.Sums.{which_below}
use Rattle.ih_sheet.specs.Rows.{person_id}
use Rattle.ih_sheet.proofs.rooms.persons_in.Given as goal

abbrev pub invariant-loop-x : goal.invariant-loop-x
invariant-loop-x l = map (λ id. id.now) l.ids.items
    ≡ map (person_id l.shown.inst.now.draft) (which_below l.x (is_present l.shown.inst.now.draft l.shown.plan.now l.room.0 l.day))
