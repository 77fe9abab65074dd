use Rattle.std.proofs.Common.{◌≡◌, []}
use Rattle.ih_fill.specs.Candidates.{rooms_for}
use Rattle.ih_waiting.proofs.stays.first_room.Given as goal

abbrev pub invariant-loop-r : goal.invariant-loop-r
invariant-loop-r l = rooms_for l.patient l.r ≡ []
