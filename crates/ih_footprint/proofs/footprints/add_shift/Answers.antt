use Rattle.std.proofs.Common.{sym, ◌∙◌}
use Rattle.ih_plan.proofs.PlanRanges.{choice-inside}
use Rattle.ih_footprint.proofs.GatherLemmas.{gathers-like, gathers-both}
use Rattle.ih_footprint.proofs.FootLemmas.{shift-none, shift-some, chosen-in}
use Rattle.ih_footprint.proofs.footprints.add_shift.Goals as goal

pub care-requires : goal.care-requires
care-requires c = choice-inside c.args.inst.now.draft c.args.plan.now c.args.room.0 c.args.shift.0 c.requires.plan c.requires.room c.requires.shift

pub add_cell-requires-in-Some : goal.add_cell-requires-in-Some
add_cell-requires-in-Some c =
    chosen-in c.args.inst.now.draft c.args.plan.now c.args.room.0 c.args.shift c.in-Some.n _ c.requires.plan (c.add_cell.ensures.sizes ∙ c.requires.sizes) c.requires.shift (sym c.care.ensures ∙ c.in-Some.is)

pub returns-in-Some : goal.returns-in-Some
returns-in-Some c =
    gathers-like (λ e range. shift-some c.args.plan.now c.args.room c.args.shift c.in-Some.n (sym c.care.ensures ∙ c.in-Some.is) e) (gathers-both c.add_cell.ensures c.add_cell-in-Some.ensures)

pub returns-in-None : goal.returns-in-None
returns-in-None c = gathers-like (λ e range. shift-none c.args.plan.now c.args.room c.args.shift (sym c.care.ensures ∙ c.in-None.is) e) c.add_cell.ensures
