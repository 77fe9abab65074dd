use Rattle.std.proofs.Common.{◌/◌, arith}
use Rattle.ih_footprint.proofs.GatherLemmas.{gathers-like, gathers-both}
use Rattle.ih_footprint.proofs.FootLemmas.{choice-pieces, told-present}
use Rattle.ih_footprint.proofs.footprints.add_set_care.Goals as goal

pub returns : goal.returns
returns g c =
    let I = c.args.inst.now.draft in
    let k = c.args.shift.0 in
    let write = c.requires.write in
    gathers-like (λ e range. choice-pieces I c.args.plan.now c.args.room.0 k _ _ (told-present I c.args.plan.now c.requires.members c.args.room.0 (k / 3) write.0 (let inside = write.1 in omega arith)) e)
    (gathers-both (gathers-both c.add_shift.ensures c.add_nurse.ensures) c.add_cares.ensures)
