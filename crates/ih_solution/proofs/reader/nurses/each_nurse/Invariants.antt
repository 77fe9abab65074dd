use Rattle.std.proofs.Common.{◌≡◌}
use Rattle.ih_solution.proofs.NurseReadings.{AreNursed}
use Rattle.ih_solution.proofs.reader.nurses.each_nurse.Given as goal

abbrev pub invariant-loop-value : goal.invariant-loop-value
invariant-loop-value l = AreNursed l.inst.draft l.at l.values l.value-index l.listed.items l.fn.plan l.plan × (l.i ≡ l.value-index)
