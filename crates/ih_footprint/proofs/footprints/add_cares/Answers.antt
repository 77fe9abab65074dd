use Rattle.std.proofs.Common.{◌∙◌, arith}
use Rattle.ih_footprint.proofs.GatherLemmas.{gathers-like, gathers-both, gathers-none}
use Rattle.ih_footprint.proofs.FootLemmas.{cares-none, cares-next, member-in}
use Rattle.ih_footprint.proofs.footprints.add_cares.Goals as goal

pub loop-i-init : goal.loop-i-init
loop-i-init g c = gathers-none cares-none

pub add_cell-requires : goal.add_cell-requires
add_cell-requires g c =
    member-in c.args.inst.now.draft c.args.plan.now c.requires.members c.args.room.0 c.args.day.0 c.requires.room c.requires.day c.loop-i.i c.member.result.0 c.loop-i.out.sizes
    (c.loop-i.invariant.sizes ∙ c.requires.sizes) (omega (arith, c.loop-i-test.true, c.count-i-end.ensures)) c.member.ensures

pub loop-i-preserved : goal.loop-i-preserved
loop-i-preserved g c =
    gathers-like (λ e range. cares-next (g.M.Members.persons c.args.members.now c.args.room.0 c.args.day.0) c.loop-i.i c.member.result
    (omega (arith, c.loop-i-test.true, c.count-i-end.ensures)) c.member.ensures e)
    (gathers-both c.loop-i.invariant c.add_cell.ensures)
