use Rattle.std.proofs.Common.{◌≡◌, take}
use Rattle.ih_sheet.specs.Calendar.{escaped}
use Rattle.ih_sheet.proofs.lines.escaped.Given as goal

abbrev pub invariant-loop-byte : goal.invariant-loop-byte
invariant-loop-byte l = l.text.items ≡ escaped (take l.byte-index l.bytes)
