use Rattle.std.proofs.Common.{◌≡◌, ◌++◌, map, take}
use Rattle.std.specs.List.{flat_map}
use Rattle.ih_sheet.specs.Calendar.{line_text}
use Rattle.ih_sheet.proofs.lines.put_lines.Given as goal

abbrev pub invariant-loop-line : goal.invariant-loop-line
invariant-loop-line l = l.out.items ≡ l.initial.out.items ++ flat_map line_text
    (map (λ line. map (λ part. part.now) line.now) (take l.line-index l.lines))
