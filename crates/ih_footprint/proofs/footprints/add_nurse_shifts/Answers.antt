use Rattle.std.proofs.Common.{◌∙◌, ap, sym, arith}
use Rattle.std.specs.Prelude.{◌||◌, option_map}
use Rattle.ih_tables.specs.declared.ids.NurseNo.{NurseNo}
use Rattle.ih_plan.proofs.PlanRanges.{choice-inside}
use Rattle.ih_footprint.specs.Pieces.{in_nurse, in_nurse_shifts}
use Rattle.ih_footprint.proofs.GatherLemmas.{gathers-like, gathers-both, gathers-none}
use Rattle.ih_footprint.proofs.FootLemmas.{shifts-none, shifts-more}
use Rattle.ih_footprint.proofs.footprints.add_nurse_shifts.Goals as goal

pub loop-k-init : goal.loop-k-init
loop-k-init c = gathers-none (shifts-none c.args.plan.now c.args.room.0 c.args.from)

pub loop-k-preserved : goal.loop-k-preserved
loop-k-preserved c =
    let P = c.args.plan.now in
    let k = c.loop-k.k in
    gathers-like (λ e range.
    ap (λ o. in_nurse_shifts P c.args.room.0 c.args.from k e || in_nurse (option_map (λ (m : NurseNo). m.0) o) k e) c.care.ensures
    ∙ shifts-more P c.args.room.0 c.args.from k c.loop-k.auto.k e)
    (gathers-both c.loop-k.invariant c.add_nurse.ensures)

pub care-requires : goal.care-requires
care-requires c =
    choice-inside c.args.inst.now.draft c.args.plan.now c.args.room.0 c.loop-k.k c.requires.plan c.requires.room (omega (arith, c.requires.shifts))

pub add_nurse-requires-clause-nurse : goal.add_nurse-requires-clause-nurse
add_nurse-requires-clause-nurse c = λ m here.
    c.requires.plan.nursed c.args.room.0 c.loop-k.k m.0 (ap (option_map (λ (m : NurseNo). m.0)) (sym c.care.ensures ∙ here))
