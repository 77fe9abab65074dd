use Rattle.std.proofs.Common.{◌≡◌, ◌∷◌, ◌++◌, [], map}
use Rattle.std.specs.Prelude.{if◌then◌else◌}
use Rattle.csv.specs.Records.{fields_of}
use Rattle.ih_sheet.specs.Rows.{is_shown, nurse_row, rows_below}
use Rattle.ih_sheet.proofs.nurses.put_nurse.Given as goal

abbrev pub invariant-loop-k : goal.invariant-loop-k
invariant-loop-k l = map fields_of l.rows.items ≡ map fields_of l.initial.rows.items
    ++ rows_below l.k (λ k. if is_shown l.shown.inst.now.draft l.shown.plan.now l.nurse.0 k
    then nurse_row l.shown.inst.now.draft l.shown.dates.now l.shown.plan.now l.nurse.0 k ∷ [] else [])
