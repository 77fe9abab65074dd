use Rattle.std.proofs.Common.{◌≡◌}
use Rattle.std.specs.Prelude.{filter_map}
use Rattle.std.specs.List.{range_with_len}
use Rattle.ih_advise.specs.Dealing.{found_of}
use Rattle.ih_advise.proofs.advising.gather.Given as goal

abbrev pub invariant-loop-number : goal.invariant-loop-number
invariant-loop-number l = l.list.items ≡ filter_map (found_of l.findings) (range_with_len 0 l.number)
