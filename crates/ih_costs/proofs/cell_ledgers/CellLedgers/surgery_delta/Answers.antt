use Rattle.std.proofs.Common.{◌≡◌, ap, Some}
use Rattle.std.specs.Prelude.{option_map}
use Rattle.ih_tables.specs.declared.drafts.Patient.{Patient}
use Rattle.ih_plan.specs.Costs.{surgeon_of}
use Rattle.ih_costs.specs.CellLedgers.{timetable_of}
use Rattle.ih_costs.proofs.DeltaLemmas.{surgeon-in}
use Rattle.ih_costs.proofs.DeltaParts.{surgery-passed}
use Rattle.ih_costs.proofs.cell_ledgers.CellLedgers.surgery_delta.Goals as goal

pub surgeon_delta-of_surgeon-requires-clause-surgeon : goal.surgeon_delta-of_surgeon-requires-clause-surgeon
surgeon_delta-of_surgeon-requires-clause-surgeon c =
    let I = c.args.inst.now.draft in
    let own : surgeon_of I c.args.trial.now.patient.0 ≡ Some c.patient.result.now.surgeon_id.0 = ap (option_map (λ (a : Patient). a.surgeon_id.0)) c.patient.ensures in
    surgeon-in I c.args.trial.now.patient.0 c.patient.result.now.surgeon_id.0 c.args.inst.now.valid own

pub returns : goal.returns
returns c =
    let I = c.args.inst.now.draft in
    let P = timetable_of c.args.self.now in
    let stands = c.requires.stands in
    let own : surgeon_of I c.args.trial.now.patient.0 ≡ Some c.patient.result.now.surgeon_id.0 = ap (option_map (λ (a : Patient). a.surgeon_id.0)) c.patient.ensures in
    rw c.zero-bill.ensures (surgery-passed I P c.args.trial.now.patient c.args.trial.now.at c.patient.result.now.surgeon_id.0 c.theatre_delta-of_theatre.result c.surgeon_delta-of_surgeon.result own
    (c.theatre_delta-of_theatre.ensures.delta P stands.theatres c.requires.stay) c.theatre_delta-of_theatre.ensures.within
    (c.surgeon_delta-of_surgeon.ensures.delta P stands.theatres c.requires.stay) c.surgeon_delta-of_surgeon.ensures.within)
