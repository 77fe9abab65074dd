use Rattle.std.proofs.Common.{◌≡◌, ◌∷◌, map}
use Rattle.csv.specs.Records.{fields_of}
use Rattle.ih_sheet.specs.Rows.{rows_below, rows_of_theatre, surgery_heading}
use Rattle.ih_sheet.proofs.surgeries.surgery_rows.Given as goal

abbrev pub invariant-loop-t : goal.invariant-loop-t
invariant-loop-t l = map fields_of l.rows.items
    ≡ surgery_heading ∷ rows_below l.t (rows_of_theatre l.shown.inst.now.draft l.shown.dates.now l.shown.plan.now)
