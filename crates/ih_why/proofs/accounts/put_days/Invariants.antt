use Rattle.std.proofs.Common.{◌≡◌, ◌++◌}
use Rattle.std.specs.Prelude.{string_bytes}
use Rattle.ih_validate.specs.Report.{lines_below}
use Rattle.ih_why.specs.Account.{room_days_text}
use Rattle.ih_why.proofs.accounts.put_days.Given as goal

abbrev pub invariant-loop-r : goal.invariant-loop-r
invariant-loop-r l = string_bytes l.out ≡ string_bytes l.initial.out ++ lines_below l.r (room_days_text l.inst.draft)
