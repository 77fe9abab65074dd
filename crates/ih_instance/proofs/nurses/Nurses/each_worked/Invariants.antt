use Rattle.std.proofs.Common.{◌≡◌}
use Rattle.ih_tables.specs.Lookups.{finds}
use Rattle.ih_instance.proofs.Flags.{AreWorked}
use Rattle.ih_instance.proofs.nurses.Nurses.each_worked.Given as goal

abbrev pub invariant-loop-value : goal.invariant-loop-value
invariant-loop-value l = AreWorked l.self.days (finds l.self.types.now) l.at l.values l.value-index l.shifts.items l.taken × (l.i ≡ l.value-index)
