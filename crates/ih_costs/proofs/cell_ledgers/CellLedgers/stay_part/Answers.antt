use Rattle.std.proofs.Common.{◌≡◌, ◌∙◌, ap, sym}
use Rattle.ih_plan.specs.Timetable.{stay_of}
use Rattle.ih_plan.specs.BillOf.{as_bill}
use Rattle.ih_costs.specs.StayPart.{stay_part}
use Rattle.ih_costs.specs.CellLedgers.{timetable_of}
use Rattle.ih_costs.proofs.ChangeLemmas.{stay-is}
use Rattle.ih_costs.proofs.cell_ledgers.CellLedgers.stay_part.Goals as goal

pub returns : goal.returns
returns c =
    let I = c.args.inst.now.draft in
    let P = timetable_of c.args.self.now in
    let stay : c.stay.result ≡ stay_of P c.args.patient.0 = rw c.plan.ensures at c.stay.ensures in
    c.stay_bill.ensures
    ∙ (ap (λ s. as_bill (stay_part c.patient.result.now s)) stay
    ∙ ap as_bill (sym (stay-is I P c.args.patient c.patient.result.now c.patient.ensures)))
