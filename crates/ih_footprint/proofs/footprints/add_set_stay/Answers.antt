use Rattle.std.proofs.Common.{refl}
use Rattle.ih_footprint.proofs.GatherLemmas.{gathers-like, gathers-both}
use Rattle.ih_footprint.proofs.FootLemmas.{set_stay-pieces}
use Rattle.ih_footprint.proofs.footprints.add_set_stay.Goals as goal

pub returns : goal.returns
returns c =
    gathers-like (λ e range. set_stay-pieces c.args.inst.now.draft c.args.plan.now c.args.patient _ c.stay.result c.args.new refl c.stay.ensures e)
    (gathers-both (gathers-both (gathers-both c.add_cell.ensures c.add_cell-2.ensures) c.add_stay.ensures) c.add_stay-2.ensures)
