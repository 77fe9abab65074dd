use Rattle.ih_plan.proofs.PlanRanges.{choice-inside}
use Rattle.ih_plan.specs.Writes.{IsWriteOf}
use Rattle.std.proofs.Common.{subst}
use Rattle.ih_plan.specs.declared.moves.Write.TheVariants.{SetCare}
use Rattle.ih_costs.proofs.pricing.undo_of.Goals as goal

pub care-requires : goal.care-requires
care-requires c =
    let I = c.args.inst.now.draft in
    let write : IsWriteOf I (SetCare c.in-SetCare.r c.in-SetCare.k c.in-SetCare.field-2) = subst (IsWriteOf I) c.in-SetCare.is c.requires.write in
    choice-inside I c.args.plan.now c.in-SetCare.r.0 c.in-SetCare.k.0 c.requires.plan write.0 write.1
