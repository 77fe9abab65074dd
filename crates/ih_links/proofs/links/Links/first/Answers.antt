use Rattle.std.proofs.Common.{◌∙◌, ap, map}
use Rattle.std.specs.Prelude.{slice_index_or}
use Rattle.ih_links.proofs.Calls.{first-answer}
use Rattle.ih_links.proofs.Numbers.{number-read, numbers-seen}
use Rattle.ih_links.proofs.links.Links.first.Goals as goal

pub returns-clause-first : goal.returns-clause-first
returns-clause-first g c =
    let f = g.W.Width.number in
    let raw = map f c.self.inside.home.items in
    let seen = numbers-seen f _ c.self.inside.home.items c.args.self.now c.self.view_is in
    let read = number-read f c.self.inside.next.items c.sentinel.result c.index.result.now c.get.result c.index.ensures c.get.ensures.number
    ∙ ap (λ k. slice_index_or (map f c.self.inside.next.items) k c.get.result) c.sentinel.ensures in
    c.node_at.ensures ∙ first-answer raw c.self.invariant seen c.args.head c.get.result c.requires.head read
