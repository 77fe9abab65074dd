use Rattle.std.proofs.Common.{◌≡◌, take}
use Rattle.std.specs.Prelude.{◌==◌, filter, not}
use Rattle.ih_sheet.proofs.lines.digits.Given as goal

abbrev pub invariant-loop-byte : goal.invariant-loop-byte
invariant-loop-byte l = l.text.items ≡ filter (λ b. not (b == 45)) (take l.byte-index l.bytes)
