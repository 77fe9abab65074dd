use Rattle.std.proofs.Common.{◌≢◌, AllPairs, take}
use Rattle.ih_tables.specs.Works.{shift_of}
use Rattle.ih_tables.proofs.validity.are_worked_once.Given as goal

abbrev pub invariant-loop-i : goal.invariant-loop-i
invariant-loop-i l = AllPairs (λ a b. shift_of a ≢ shift_of b) (take l.i l.worked)
