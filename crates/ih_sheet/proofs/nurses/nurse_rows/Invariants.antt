use Rattle.std.proofs.Common.{◌≡◌, ◌∷◌, map}
use Rattle.csv.specs.Records.{fields_of}
use Rattle.ih_sheet.specs.Rows.{nurse_heading, rows_below, rows_of_nurse}
use Rattle.ih_sheet.proofs.nurses.nurse_rows.Given as goal

abbrev pub invariant-loop-n : goal.invariant-loop-n
invariant-loop-n l = map fields_of l.rows.items
    ≡ nurse_heading ∷ rows_below l.n (rows_of_nurse l.shown.inst.now.draft l.shown.dates.now l.shown.plan.now)
