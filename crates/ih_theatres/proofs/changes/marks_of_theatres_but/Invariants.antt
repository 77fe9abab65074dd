use Rattle.std.proofs.Common.{length}
use Rattle.ih_links.specs.Lists.{list_of}
use Rattle.ih_links.proofs.Walks.{rest_from, IsWalkWith}
use Rattle.ih_theatres.proofs.MarkLemmas.{AreMet, other_theatre}
use Rattle.ih_theatres.proofs.changes.marks_of_theatres_but.Given as goal

abbrev pub invariant-loop-at : goal.invariant-loop-at
invariant-loop-at l = IsWalkWith l.fn.links.nodes (list_of l.fn.links l.fn.head) l.at (AreMet l.used (other_theatre l.fn.theatres l.fn.patient.0))

abbrev pub decreases-loop-at : goal.decreases-loop-at
decreases-loop-at l = length (rest_from l.at (list_of l.fn.links l.fn.head))
