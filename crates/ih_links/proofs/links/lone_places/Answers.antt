use Rattle.ih_links.proofs.Empty.{range-more}
use Rattle.ih_links.proofs.Numbers.{number-push}
use Rattle.ih_links.proofs.links.lone_places.Goals as goal

pub loop-place-preserved : goal.loop-place-preserved
loop-place-preserved g c =
    range-more c.loop-place.place _ _ c.loop-place.invariant
    (number-push g.W.Width.number c.loop-place.places.items c.push.new.self.items c.of.result c.loop-place.place c.in_ok-push.ensures.items c.of.ensures)
