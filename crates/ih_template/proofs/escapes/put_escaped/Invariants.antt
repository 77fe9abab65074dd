use Rattle.std.proofs.Common.{◌≡◌, ◌++◌}
use Rattle.ih_validate.specs.Report.{lines_below}
use Rattle.ih_template.specs.Escapes.{escaped_at}
use Rattle.ih_template.proofs.escapes.put_escaped.Given as goal

abbrev pub invariant-loop-i : goal.invariant-loop-i
invariant-loop-i l = l.out.items ≡ l.initial.out.items ++ lines_below l.i (escaped_at l.text)
