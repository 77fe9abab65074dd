use Rattle.std.proofs.Common.{◌∙◌, ap, refl}
use Rattle.ih_plan.specs.BillOf.{as_bill}
use Rattle.ih_theatres.proofs.LedgerLemmas.{theatre-is}
use Rattle.ih_theatres.proofs.PartLemmas.{theatre-part}
use Rattle.ih_theatres.proofs.theatres.Theatres.theatre_bill.Goals as goal

pub returns-clause-part : goal.returns-clause-part
returns-clause-part c = λ P stands.
    let planned = theatre-is stands c.args.day.0 c.day_number-today.result c.requires.day c.args.theatre.0 c.requires.theatre c.day_number-today.ensures c.index-planned.result.now c.index-planned.ensures in
    c.theatre_day_bill.ensures.value
    ∙ ap as_bill (theatre-part stands c.args.theatre c.args.day c.saturating_sub-over.result c.bit.result c.requires.day
    (rw (c.saturating_sub-over.ensures, planned, c.theatre_availability.ensures, c.day_number-today.ensures) refl)
    (rw (c.bit.ensures.value, c.is_used.ensures, c.day_number-today.ensures) refl))
