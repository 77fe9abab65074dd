use Rattle.std.proofs.Common.{rules, ◌∙◌, ap}
use Rattle.ih_plan.specs.Sums.{which_below}
use Rattle.ih_validate.specs.Surgery.{is_patient_of}
use Rattle.ih_validate.proofs.surgery.list_own.Goals as goal

pub returns : goal.returns
returns c =
    let member = is_patient_of c.args.inst.now.draft c.args.plan.now c.args.resource in
    c.list_below.ensures member (search rules) ∙ ap (λ n. which_below n member) c.patients.ensures
