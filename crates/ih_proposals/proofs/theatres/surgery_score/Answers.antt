use Rattle.std.proofs.Common.{◌≡◌, ap, Some}
use Rattle.std.specs.Prelude.{option_map}
use Rattle.ih_tables.specs.declared.drafts.Patient.{Patient}
use Rattle.ih_plan.specs.Costs.{surgeon_of}
use Rattle.ih_costs.proofs.DeltaLemmas.{surgeon-in}
use Rattle.ih_proposals.proofs.theatres.surgery_score.Goals as goal

pub surgeon_delta-of_surgeon-requires-clause-surgeon : goal.surgeon_delta-of_surgeon-requires-clause-surgeon
surgeon_delta-of_surgeon-requires-clause-surgeon c =
    let I = c.args.here.now.inst.now.draft in
    let own : surgeon_of I c.args.patient.0 ≡ Some c.patient.result.now.surgeon_id.0 = ap (option_map (λ (a : Patient). a.surgeon_id.0)) c.patient.ensures in
    surgeon-in I c.args.patient.0 c.patient.result.now.surgeon_id.0 c.args.here.now.inst.now.valid own
