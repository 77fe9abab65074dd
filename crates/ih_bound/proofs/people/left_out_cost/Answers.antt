use Rattle.std.proofs.Common.{arith}
use Rattle.ih_bound.proofs.LeastPaid.{mandatory-stays, paid-left_out}
use Rattle.ih_bound.proofs.people.left_out_cost.Goals as goal

pub returns-then-patient : goal.returns-then-patient
returns-then-patient c = λ P t feasible none. absurd (mandatory-stays c.args.inst.now.draft P c.args.patient.0 c.patient.result.now feasible c.requires c.patient.ensures c.if-patient.true none)

pub returns : goal.returns
returns c = λ P t feasible none.
    let out = paid-left_out c.args.inst.now.draft c.args.rates.now t P c.args.patient.0 c.patient.result.now c.patient.ensures c.if-patient.false none in
    omega (arith, out, c.min.ensures)
