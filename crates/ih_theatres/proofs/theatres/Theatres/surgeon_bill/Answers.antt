use Rattle.std.proofs.Common.{◌∙◌, ap, map, refl}
use Rattle.std.specs.List.{list_any}
use Rattle.ih_tables.specs.Sizes.{theatre_count}
use Rattle.ih_links.specs.Lists.{list_of}
use Rattle.ih_plan.specs.Costs.{is_number}
use Rattle.ih_plan.specs.BillOf.{as_bill}
use Rattle.ih_theatres.specs.Days.{theatre_at}
use Rattle.ih_theatres.proofs.MarkLemmas.{AreMet, count-met}
use Rattle.ih_theatres.proofs.LedgerLemmas.{surgeon-is, theatres-few, marks-below}
use Rattle.ih_theatres.proofs.PartLemmas.{surgeon-part}
use Rattle.ih_theatres.proofs.theatres.Theatres.surgeon_bill.Goals as goal

pub marks_of_theatres-marks-requires-clause-known : goal.marks_of_theatres-marks-requires-clause-known
marks_of_theatres-marks-requires-clause-known c =
    let s = c.requires.stands in
    rw c.as_slice.ensures.value (theatres-few c.args.inst.now.valid s.1)

pub returns-clause-part : goal.returns-clause-part
returns-clause-part c = λ P stands.
    let planned = surgeon-is stands c.args.day.0 c.day_number-today.result c.requires.day c.args.surgeon.0 c.requires.surgeon c.day_number-today.ensures c.index-planned.result.now c.index-planned.ensures in
    let xs = list_of c.args.self.now.surgeon_days c.day_number-today.result in
    let met : AreMet c.marks_of_theatres-marks.result (theatre_at c.args.self.now.theatres.items) xs = rw c.as_slice.ensures.value at c.marks_of_theatres-marks.ensures in
    let used = c.count_marked-used.ensures.count (theatre_count c.args.inst.now.draft) c.args.inst.now.valid.theatres.len.most
    (marks-below c.args.inst.now.valid stands c.marks_of_theatres-marks.result xs met)
    ∙ count-met (theatre_count c.args.inst.now.draft) c.marks_of_theatres-marks.result (λ t. list_any (λ o. is_number o t) (map (theatre_at c.args.self.now.theatres.items) xs)) met in
    c.surgeon_day_bill.ensures.value
    ∙ ap as_bill (surgeon-part stands c.args.surgeon c.args.day c.saturating_sub-over.result c.saturating_sub.result c.requires.day
    (rw (c.saturating_sub-over.ensures, planned, c.surgeon_maximum.ensures, c.day_number-today.ensures) refl)
    (rw (c.saturating_sub.ensures, used, c.day_number-today.ensures) refl))
