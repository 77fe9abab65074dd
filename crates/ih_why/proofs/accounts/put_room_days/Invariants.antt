use Rattle.std.proofs.Common.{◌≡◌, ◌++◌}
use Rattle.std.specs.Prelude.{string_bytes}
use Rattle.ih_validate.specs.Report.{lines_below}
use Rattle.ih_why.specs.Account.{day_lines}
use Rattle.ih_why.proofs.accounts.put_room_days.Given as goal

abbrev pub invariant-loop-d : goal.invariant-loop-d
invariant-loop-d l = string_bytes l.out ≡ string_bytes l.initial.out ++ lines_below l.d (day_lines l.inst.draft l.room.0)
