use Rattle.std.proofs.Common.{◌≡◌, ◌++◌}
use Rattle.std.specs.Prelude.{string_bytes}
use Rattle.ih_validate.specs.Report.{lines_below}
use Rattle.ih_why.specs.Account.{patient_line}
use Rattle.ih_why.proofs.accounts.put_patients.Given as goal

abbrev pub invariant-loop-p : goal.invariant-loop-p
invariant-loop-p l = string_bytes l.out ≡ string_bytes l.initial.out ++ lines_below l.p (patient_line l.inst.draft)
