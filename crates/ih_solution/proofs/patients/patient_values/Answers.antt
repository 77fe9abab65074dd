use Rattle.std.proofs.Common.{◌∙◌, ap}
use Rattle.ih_solution.specs.Solution.{stay_data}
use Rattle.ih_solution.proofs.ListedValues.{listed-made}
use Rattle.ih_solution.proofs.patients.patient_values.Goals as goal

pub loop-p-preserved : goal.loop-p-preserved
loop-p-preserved c =
    let stay = ap (stay_data c.args.inst.now.draft c.loop-p.p) c.stay.ensures in
    listed-made _ _ _ _ _ c.loop-p.invariant (c.in_ok-stay_value.ensures ∙ stay) c.in_ok-push.ensures.items
