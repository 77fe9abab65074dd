use Rattle.std.proofs.Common.{length}
use Rattle.ih_links.specs.Lists.{list_of}
use Rattle.ih_links.proofs.Walks.{rest_from}
use Rattle.ih_roomdays.proofs.Tours.{IsTour}
use Rattle.ih_roomdays.proofs.occupancies.crowd_of.Given as goal

abbrev pub invariant-loop-at : goal.invariant-loop-at
invariant-loop-at l = IsTour l.fn.profiles l.fn.lists.nodes (list_of l.fn.lists l.fn.room) l.at l.crowd

abbrev pub decreases-loop-at : goal.decreases-loop-at
decreases-loop-at l = length (rest_from l.at (list_of l.fn.lists l.fn.room))
