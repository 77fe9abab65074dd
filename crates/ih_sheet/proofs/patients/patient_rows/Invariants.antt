use Rattle.std.proofs.Common.{◌≡◌, ◌∷◌, [], map}
use Rattle.csv.specs.Records.{fields_of}
use Rattle.ih_sheet.specs.Rows.{patient_heading, patient_row, rows_below}
use Rattle.ih_sheet.proofs.patients.patient_rows.Given as goal

abbrev pub invariant-loop-p : goal.invariant-loop-p
invariant-loop-p l = map fields_of l.rows.items
    ≡ patient_heading ∷ rows_below l.p (λ p. patient_row l.shown.inst.now.draft l.shown.dates.now l.shown.plan.now p ∷ [])
