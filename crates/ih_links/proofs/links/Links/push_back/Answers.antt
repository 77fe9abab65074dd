use Rattle.std.proofs.Common.{◌+◌, arith, sym, map}
use Rattle.ih_links.proofs.Calls.{push-last, push-room, push-tied, push-lists}
use Rattle.ih_links.proofs.Numbers.{number-read, number-set, number-set_twice, numbers-seen, number-below}
use Rattle.ih_links.proofs.links.Links.push_back.Goals as goal

pub index_mut-requires : goal.index_mut-requires
index_mut-requires g c =
    let f = g.W.Width.number in
    let raw = map f c.self.inside.home.items in
    let seen = numbers-seen f _ c.self.inside.home.items c.args.self.now c.self.view_is in
    let last = number-read f c.self.inside.prev.items c.sentinel-sentinel.result c.index-last.result.now c.get.result c.index-last.ensures c.get.ensures.number in
    rw c.self.inside.next.ok.0
    (number-below f c.self.inside.next.items c.get.result
    (push-last raw c.self.invariant seen c.args.head c.args.node c.sentinel-sentinel.result c.get.result c.requires.head c.requires.node c.requires.free c.sentinel-sentinel.ensures last))

pub of-requires-3 : goal.of-requires-3
of-requires-3 g c =
    let f = g.W.Width.number in
    let raw = map f c.self.inside.home.items in
    let seen = numbers-seen f _ c.self.inside.home.items c.args.self.now c.self.view_is in
    let last = number-read f c.self.inside.prev.items c.sentinel-sentinel.result c.index-last.result.now c.get.result c.index-last.ensures c.get.ensures.number in
    let count = number-read f c.self.inside.len.items c.args.head c.index.result.now c.get-count.result c.index.ensures c.get-count.ensures.number in
    push-room raw c.self.invariant seen c.args.head c.args.node c.sentinel-sentinel.result c.get.result c.requires.head c.requires.node c.requires.free c.sentinel-sentinel.ensures last c.get-count.result count

pub overflow_add-count : goal.overflow_add-count
overflow_add-count g c =
    let room = of-requires-3 g c in
    let small = g.met.W.Width.small in
    omega arith

pub invariant_of-self : goal.invariant_of-self
invariant_of-self g c =
    let f = g.W.Width.number in
    let inside = c.self.inside in
    let raw = map f inside.home.items in
    let seen = numbers-seen f _ inside.home.items c.args.self.now c.self.view_is in
    let last = number-read f inside.prev.items c.sentinel-sentinel.result c.index-last.result.now c.get.result c.index-last.ensures c.get.ensures.number in
    let count = number-read f inside.len.items c.args.head c.index.result.now c.get-count.result c.index.ensures c.get-count.ensures.number in
    let next = number-set_twice f inside.next.items c.get.result c.of-place.result c.args.node c.args.node c.of.result c.sentinel-sentinel.result c.of-place.ensures c.of.ensures in
    let prev = number-set_twice f inside.prev.items c.args.node c.index-last.result.now c.get.result c.sentinel-sentinel.result c.of-place.result c.args.node (sym c.get.ensures.number) c.of-place.ensures in
    let home = number-set f inside.home.items c.args.node c.of-2.result c.args.head c.of-2.ensures in
    let len = number-set f inside.len.items c.args.head c.of-3.result (c.get-count.result + 1) c.of-3.ensures in
    rw (next, prev, home, len)
    (push-tied raw c.self.invariant seen c.args.head c.args.node c.sentinel-sentinel.result c.get.result c.requires.head c.requires.node c.requires.free c.sentinel-sentinel.ensures last c.get-count.result count)

pub returns-clause-lists : goal.returns-clause-lists
returns-clause-lists g c =
    let f = g.W.Width.number in
    let inside = c.self.inside in
    let raw = map f inside.home.items in
    let seen = numbers-seen f _ inside.home.items c.args.self.now c.self.view_is in
    let last = number-read f inside.prev.items c.sentinel-sentinel.result c.index-last.result.now c.get.result c.index-last.ensures c.get.ensures.number in
    let count = number-read f inside.len.items c.args.head c.index.result.now c.get-count.result c.index.ensures c.get-count.ensures.number in
    let next = number-set_twice f inside.next.items c.get.result c.of-place.result c.args.node c.args.node c.of.result c.sentinel-sentinel.result c.of-place.ensures c.of.ensures in
    let home = number-set f inside.home.items c.args.node c.of-2.result c.args.head c.of-2.ensures in
    let len = number-set f inside.len.items c.args.head c.of-3.result (c.get-count.result + 1) c.of-3.ensures in
    rw (next, home, len)
    (push-lists raw c.self.invariant seen c.args.head c.args.node c.sentinel-sentinel.result c.get.result c.requires.head c.requires.node c.requires.free c.sentinel-sentinel.ensures last c.get-count.result count)
