-- Faults that are planned for calls of one kind, and the count of those that came.
use Rattle.std.specs.Prelude.{◌==◌, ℕ, ◌+◌, ◌-◌, ◌^◌, nat_lt, List, [], ◌∷◌, Option, Some, None, if◌then◌else◌}
use Rattle.ih_shelf.specs.declared.faults.PlannedFault.{PlannedFault}
use Rattle.ih_shelf.specs.Outside.{raised}

-- the calls made so far, the planned faults, the newest first, and how many calls failed
pub record Faults : Type 0 where
  pub calls : ℕ
  pub plan : List PlannedFault
  pub count : ℕ

-- no call made, none to fail
abbrev pub no_faults : Faults
no_faults = record { calls = 0; plan = []; count = 0 }

-- how many bytes the call of a number keeps, if it is to fail; the newest plan counts
abbrev pub kept_by : List PlannedFault → ℕ → Option ℕ
kept_by [] n = None
kept_by (f ∷ fs) n = if f.number == n then Some f.kept else kept_by fs n

-- the call of a number is planned to fail
abbrev pub planned : Faults → ℕ → ℕ → Faults
planned f number kept = record f { plan = record { number = number; kept = kept } ∷ f.plan }

-- how many bytes the next call keeps, if it is to fail: past the last number of 64 bits no call is
unfoldable pub due : Faults → Option ℕ
due f = if nat_lt f.calls (2 ^ 64 - 1) then kept_by f.plan (f.calls + 1) else None

-- one more call
abbrev pub called : Faults → Faults
called f = record f { calls = raised f.calls }

-- one more fault
abbrev pub failed : Faults → Faults
failed f = record f { count = raised f.count }
