use Rattle.std.proofs.Common.{subst, sym}
use Rattle.ih_links.specs.Lists.{list_of}
use Rattle.ih_links.proofs.Walks.{IsAt, starts}
use Rattle.ih_nurses.proofs.rooms.has_others.Goals as goal

pub next-requires : goal.next-requires
next-requires c = record {
  node = c.first.ensures.nodes.below c.in-Some.y (subst (λ a. IsAt a (list_of c.args.persons.now c.args.room.0)) (sym c.in-Some.ensures.first) (starts (list_of c.args.persons.now c.args.room.0)));
}
