use Rattle.std.proofs.Common.{◌∙◌, map}
use Rattle.ih_links.proofs.Calls.{next-answer, free-home}
use Rattle.ih_links.proofs.Numbers.{number-read, numbers-seen}
use Rattle.ih_links.proofs.links.Links.next.Goals as goal

pub returns-in-Some-clause-linked : goal.returns-in-Some-clause-linked
returns-in-Some-clause-linked g c h m =
    let f = g.W.Width.number in
    let raw = map f c.self.inside.home.items in
    let seen = numbers-seen f _ c.self.inside.home.items c.args.self.now c.self.view_is in
    let read = number-read f c.self.inside.next.items c.args.node c.index.result.now c.get.result c.index.ensures c.get.ensures.number in
    c.node_at.ensures ∙ next-answer raw c.self.invariant seen c.args.node c.get.result c.requires.node read h m

pub returns-in-Some-clause-free : goal.returns-in-Some-clause-free
returns-in-Some-clause-free g c free = absurd (free-home c.args.node c.args.self.now c.home.result c.home.ensures c.in-Some.is free)
