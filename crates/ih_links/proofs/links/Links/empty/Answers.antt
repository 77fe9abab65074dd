use Rattle.std.proofs.Common.{arith, map}
use Rattle.ih_links.proofs.Empty.{new-tied, new-lists}
use Rattle.ih_links.proofs.links.Links.empty.Goals as goal

pub invariant_of-result : goal.invariant_of-result
invariant_of-result g c =
    let f = g.W.Width.number in
    let most = c.most-most.ensures in
    new-tied g.W.Width.most c.args.heads c.args.nodes (omega arith) (map f c.in_ok-next.next.items) (map f c.in_ok-prev.prev.items) (map f c.in_ok-home.home.items) (map f c.in_ok-len.len.items)
    c.in_ok-next.ensures c.in_ok-prev.ensures (rw (← most) c.in_ok-home.ensures) c.in_ok-len.ensures

pub returns-clause-lists : goal.returns-clause-lists
returns-clause-lists g c =
    let f = g.W.Width.number in
    let most = c.most-most.ensures in
    new-lists g.W.Width.most c.args.heads c.args.nodes (omega arith) (map f c.in_ok-next.next.items) (map f c.in_ok-prev.prev.items) (map f c.in_ok-home.home.items) (map f c.in_ok-len.len.items)
    c.in_ok-next.ensures c.in_ok-prev.ensures (rw (← most) c.in_ok-home.ensures) c.in_ok-len.ensures
