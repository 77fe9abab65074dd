use Rattle.std.proofs.Common.{sym, ap, ◌∙◌}
use Rattle.std.specs.Prelude.{option_map}
use Rattle.ih_tables.specs.declared.ids.NurseNo.{NurseNo}
use Rattle.ih_plan.proofs.PlanRanges.{choice-inside}
use Rattle.ih_validate.proofs.shifts.nurse_at.Goals as goal

pub care-requires : goal.care-requires
care-requires c = choice-inside c.args.inst.now.draft c.args.plan.now c.args.room.0 c.args.shift c.requires.plan c.requires.room c.requires.shift

pub returns-in-Some-clause-nurse : goal.returns-in-Some-clause-nurse
returns-in-Some-clause-nurse c =
    c.requires.plan.nursed c.args.room.0 c.args.shift c.in-Some.n.0 (ap (option_map (λ (n : NurseNo). n.0)) (sym c.care.ensures ∙ c.in-Some.is))
