use Rattle.std.proofs.Common.{◌-◌, ◌∙◌, refl, sym, map}
use Rattle.ih_links.proofs.Calls.{remove-before, remove-after, remove-room, remove-tied, remove-lists}
use Rattle.ih_links.proofs.Numbers.{number-read, number-set, numbers-seen, number-below}
use Rattle.ih_links.proofs.links.Links.remove.Goals as goal

pub index_mut-requires : goal.index_mut-requires
index_mut-requires g c =
    let f = g.W.Width.number in
    let inside = c.self.inside in
    let raw = map f inside.home.items in
    let seen = numbers-seen f _ inside.home.items c.args.self.now c.self.view_is in
    let before = number-read f inside.prev.items c.args.node c.index-before.result.now c.get.result c.index-before.ensures c.get.ensures.number in
    let after = number-read f inside.next.items c.args.node c.index-after.result.now (f c.index-after.result.now) c.index-after.ensures refl in
    rw inside.next.ok.0
    (number-below f inside.next.items c.get.result
    (remove-before raw c.self.invariant seen c.in-Some.head c.args.node c.get.result (f c.index-after.result.now) c.home.result c.home.ensures c.in-Some.is before after))

pub index_mut-requires-in-Some : goal.index_mut-requires-in-Some
index_mut-requires-in-Some g c =
    let f = g.W.Width.number in
    let inside = c.self.inside in
    let raw = map f inside.home.items in
    let seen = numbers-seen f _ inside.home.items c.args.self.now c.self.view_is in
    let before = number-read f inside.prev.items c.args.node c.index-before.result.now c.get.result c.index-before.ensures c.get.ensures.number in
    let after = number-read f inside.next.items c.args.node c.index-after.result.now c.get-in-Some.result c.index-after.ensures c.get-in-Some.ensures.number in
    rw inside.prev.ok.0
    (number-below f inside.prev.items c.get-in-Some.result
    (remove-after raw c.self.invariant seen c.in-Some.head c.args.node c.get.result c.get-in-Some.result c.home.result c.home.ensures c.in-Some.is before after))

pub overflow_sub-count : goal.overflow_sub-count
overflow_sub-count g c =
    let f = g.W.Width.number in
    let inside = c.self.inside in
    let raw = map f inside.home.items in
    let seen = numbers-seen f _ inside.home.items c.args.self.now c.self.view_is in
    let before = number-read f inside.prev.items c.args.node c.index-before.result.now c.get.result c.index-before.ensures c.get.ensures.number in
    let after = number-read f inside.next.items c.args.node c.index-after.result.now c.get-in-Some.result c.index-after.ensures c.get-in-Some.ensures.number in
    let count = number-read f inside.len.items c.in-Some.head c.index.result.now c.get-count.result c.index.ensures c.get-count.ensures.number in
    remove-room raw c.self.invariant seen c.in-Some.head c.args.node c.get.result c.get-in-Some.result c.home.result c.home.ensures c.in-Some.is before after c.get-count.result count

pub invariant_of-self : goal.invariant_of-self
invariant_of-self g c =
    let f = g.W.Width.number in
    let inside = c.self.inside in
    let raw = map f inside.home.items in
    let seen = numbers-seen f _ inside.home.items c.args.self.now c.self.view_is in
    let before = number-read f inside.prev.items c.args.node c.index-before.result.now c.get.result c.index-before.ensures c.get.ensures.number in
    let after = number-read f inside.next.items c.args.node c.index-after.result.now c.get-in-Some.result c.index-after.ensures c.get-in-Some.ensures.number in
    let count = number-read f inside.len.items c.in-Some.head c.index.result.now c.get-count.result c.index.ensures c.get-count.ensures.number in
    let next = number-set f inside.next.items c.get.result c.index-after.result.now c.get-in-Some.result (sym c.get-in-Some.ensures.number) in
    let prev = number-set f inside.prev.items c.get-in-Some.result c.index-before.result.now c.get.result (sym c.get.ensures.number) in
    let home = number-set f inside.home.items c.args.node c.of.result g.W.Width.most (c.of.ensures ∙ c.most.ensures) in
    let len = number-set f inside.len.items c.in-Some.head c.of-in-Some.result (c.get-count.result - 1) c.of-in-Some.ensures in
    rw (next, prev, home, len)
    (remove-tied raw c.self.invariant seen c.in-Some.head c.args.node c.get.result c.get-in-Some.result c.home.result c.home.ensures c.in-Some.is before after c.get-count.result count)

pub returns-in-Some-clause-lists : goal.returns-in-Some-clause-lists
returns-in-Some-clause-lists g c =
    let f = g.W.Width.number in
    let inside = c.self.inside in
    let raw = map f inside.home.items in
    let seen = numbers-seen f _ inside.home.items c.args.self.now c.self.view_is in
    let before = number-read f inside.prev.items c.args.node c.index-before.result.now c.get.result c.index-before.ensures c.get.ensures.number in
    let after = number-read f inside.next.items c.args.node c.index-after.result.now c.get-in-Some.result c.index-after.ensures c.get-in-Some.ensures.number in
    let count = number-read f inside.len.items c.in-Some.head c.index.result.now c.get-count.result c.index.ensures c.get-count.ensures.number in
    let next = number-set f inside.next.items c.get.result c.index-after.result.now c.get-in-Some.result (sym c.get-in-Some.ensures.number) in
    let home = number-set f inside.home.items c.args.node c.of.result g.W.Width.most (c.of.ensures ∙ c.most.ensures) in
    let len = number-set f inside.len.items c.in-Some.head c.of-in-Some.result (c.get-count.result - 1) c.of-in-Some.ensures in
    rw (next, home, len)
    (remove-lists raw c.self.invariant seen c.in-Some.head c.args.node c.get.result c.get-in-Some.result c.home.result c.home.ensures c.in-Some.is before after c.get-count.result count)
