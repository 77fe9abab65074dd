use Rattle.std.proofs.Common.{◌≡◌, ◌≤◌, ◌*◌, ◌++◌}
use Rattle.ih_plan.specs.Sums.{sum_below}
use Rattle.ih_validate.specs.Report.{lines_below}
use Rattle.ih_carry.specs.Account.{line_of, part_number}
use Rattle.ih_carry.specs.Handovers.{handover_of}
use Rattle.ih_carry.proofs.accounts.put_part.Given as goal

abbrev pub invariant-loop-item : goal.invariant-loop-item
invariant-loop-item l = record {
  said : l.out.items ≡ l.initial.out.items ++ lines_below l.item (line_of (handover_of l.handover) l.part);
  total : l.total ≡ sum_below l.item (part_number (handover_of l.handover) l.part);
  bound : l.total ≤ 21504 * l.item;
}
