use Rattle.std.proofs.Common.{◌≡◌, ◌∙◌, refl, subst, Some, None}
use Rattle.ih_tables.specs.declared.cells.Cell.TheVariants.{Care}
use Rattle.ih_tables.specs.Bills.{sub_bills}
use Rattle.ih_plan.specs.declared.moves.Write.TheVariants.{SetStay}
use Rattle.ih_plan.specs.Timetable.{Timetable}
use Rattle.ih_plan.specs.Writes.{put}
use Rattle.ih_plan.specs.BillOf.{as_bill}
use Rattle.ih_plan.specs.Cells.{part_at}
use Rattle.ih_nurses.proofs.DifferenceLemmas.{less-by, care-change}
use Rattle.ih_nurses.proofs.ShiftSpanLemmas.{care-delta}
use Rattle.ih_nurses.proofs.LedgerLemmas.{stands-own}
use Rattle.ih_nurses.proofs.nurses.Nurses.care_delta.Goals as goal

pub returns-clause-delta : goal.returns-clause-delta
returns-clause-delta c = λ P known.
    let I = c.args.inst.now.draft in
    let plan = c.args.self.now.plan in
    let p = c.args.patient in
    let own = stands-own known in
    subst (λ (S : Timetable). c.difference.result
    ≡ sub_bills (as_bill (part_at I (put (SetStay p (Some c.args.at)) S) (Care (record { 0 = p.0 }))))
    (as_bill (part_at I (put (SetStay p None) S) (Care (record { 0 = p.0 }))))) known.plan_is
    (c.difference.ensures.value
    ∙ (less-by c.nursed.ensures c.nursed-2.ensures
    ∙ care-change I (put (SetStay p None) plan) (put (SetStay p (Some c.args.at)) plan) (record { 0 = p.0 }) c.distinct_nurses_over.result 0
    (care-delta I plan p c.args.at own.fits c.requires.patient c.distinct_nurses_over.result (c.distinct_nurses_over.ensures ∙ rw (c.stay_shift_span-shift_span.ensures.shift_span) refl))))
