use Rattle.ih_footprint.proofs.GatherLemmas.{gathers-like, gathers-both}
use Rattle.ih_footprint.proofs.FootLemmas.{days-pieces}
use Rattle.ih_footprint.proofs.footprints.add_days.Goals as goal

pub returns : goal.returns
returns c =
    gathers-like (λ e range. days-pieces c.args.plan.now c.args.room.0 c.args.from c.args.to e)
    (gathers-both (gathers-both c.add_room_days.ensures c.add_room_shifts.ensures) c.add_nurse_shifts.ensures)
