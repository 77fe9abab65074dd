use Rattle.std.proofs.Common.{◌≡◌}
use Rattle.ih_solution.proofs.PatientReadings.{AreAdmitted}
use Rattle.ih_solution.proofs.reader.patients.each_stay.Given as goal

abbrev pub invariant-loop-value : goal.invariant-loop-value
invariant-loop-value l = AreAdmitted l.inst.draft l.at l.values l.value-index l.listed.items l.plan × (l.i ≡ l.value-index)
