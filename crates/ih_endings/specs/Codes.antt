-- The exit code of each status.
use Rattle.std.specs.Prelude.{ℕ}
use Rattle.ih_endings.specs.declared.status.Status.{Status}
use Rattle.ih_endings.specs.declared.status.Status.TheVariants.{Done, Usage, ReadFault, InstanceRefused, StartRefused, NoneFound, WriteFault, OutOfMemory, JournalRefused, Infeasible, TooLong}

abbrev pub code_of : Status → ℕ
code_of Done = 0
code_of Usage = 1
code_of (ReadFault role) = 2
code_of (InstanceRefused r) = 3
code_of (StartRefused r) = 4
code_of NoneFound = 5
code_of (WriteFault role) = 6
code_of OutOfMemory = 7
code_of (JournalRefused r) = 8
code_of Infeasible = 9
code_of (TooLong role) = 10
