-- Why files can't be had, and what reading them changes.
use Rattle.std.specs.Prelude.{◌≡◌, ℕ, ◌≤◌, List}
use Rattle.ih_shelf.specs.Outside.{Rose}
use Rattle.ih_shelf.specs.declared.outside.Shelf.{Ghosts as ShelfGhosts}
use Rattle.ih_shelf.specs.declared.outside.ReadError.{ReadError}
use Rattle.ih_shelf.specs.declared.outside.ReadError.TheVariants.{Fault as Unreadable, TooLong as Long, OutOfMemory as NoRoom}
use Rattle.ih_inputs.specs.declared.error.InputError.{InputError}
use Rattle.ih_inputs.specs.declared.error.Refused.{Refused}
use Rattle.ih_inputs.specs.declared.error.InputError.TheVariants.{InstanceRefused, NextRefused, ReadFault, OlderRefused, OutOfMemory, SolutionRefused, TooLong}
use Rattle.ih_inputs.specs.declared.error.InputRole.{InputRole}
use Rattle.ih_inputs.specs.declared.error.InputRole.TheVariants.{Next, Older}

-- why a file gave no bytes
abbrev pub error_of_file : InputRole → ReadError → InputError
error_of_file role Unreadable = ReadFault role
error_of_file role Long = TooLong role
error_of_file role NoRoom = OutOfMemory

-- an instance's refusal, by what its file is to the call
abbrev pub instance_refused_as : InputRole → Refused → InputError
instance_refused_as Next x = NextRefused x
instance_refused_as role x = InstanceRefused x

-- a timetable's refusal, by what its file is to the call
abbrev pub refused_as : InputRole → Refused → InputError
refused_as Older x = OlderRefused x
refused_as role x = SolutionRefused x

-- a call that reads may count faults of reads, and changes nothing else
pub record HasOnlyRead {X : Type 0} (shelf : ShelfGhosts X) (old new : X) : Type 0 where
  pub count : shelf.read_faults old ≤ shelf.read_faults new
  pub other_count : shelf.write_faults new ≡ shelf.write_faults old
  pub kept : shelf.names new ≡ shelf.names old

-- A read of the name failed in a call over a shelf, behind reads alone, and was counted.
pub record HasFailed {X : Type 0} (shelf : ShelfGhosts X) (name : List ℕ) (old new : X) : Type 0 where
  pub before : X
  pub only : HasOnlyRead shelf old before
  pub failed : shelf.read_failed before name new
  pub rose : Rose (shelf.read_faults old) (shelf.read_faults new)

-- a fault is answered only where a read of the file with this name failed
abbrev pub HasNamedCause : {X : Type 0} → ShelfGhosts X → List ℕ → X → X → InputError → Type 0
HasNamedCause shelf name old new (ReadFault role) = HasFailed shelf name old new
HasNamedCause shelf name old new error = Unit {0}
