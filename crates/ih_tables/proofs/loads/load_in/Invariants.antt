use Rattle.std.proofs.Common.{◌≡◌, drop}
use Rattle.ih_tables.specs.Works.{load_in}
use Rattle.ih_tables.proofs.loads.load_in.Given as goal

abbrev pub invariant-loop-w : goal.invariant-loop-w
invariant-loop-w l = load_in l.worked l.shift ≡ load_in (drop l.w-index l.worked) l.shift
