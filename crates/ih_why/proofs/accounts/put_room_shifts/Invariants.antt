use Rattle.std.proofs.Common.{◌≡◌, ◌++◌}
use Rattle.std.specs.Prelude.{string_bytes}
use Rattle.ih_validate.specs.Report.{lines_below}
use Rattle.ih_why.specs.Account.{shift_line}
use Rattle.ih_why.proofs.accounts.put_room_shifts.Given as goal

abbrev pub invariant-loop-k : goal.invariant-loop-k
invariant-loop-k l = string_bytes l.out ≡ string_bytes l.initial.out ++ lines_below l.k (shift_line l.inst.draft l.room.0)
