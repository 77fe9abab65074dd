use Rattle.std.proofs.Common.{◌∙◌, sym, map}
use Rattle.ih_links.proofs.Calls.{home-none-answer, home-some-answer}
use Rattle.ih_links.proofs.Numbers.{number-read, numbers-seen}
use Rattle.ih_links.proofs.links.Links.home.Goals as goal

pub returns-then-head-most : goal.returns-then-head-most
returns-then-head-most g c =
    let f = g.W.Width.number in
    let raw = map f c.self.inside.home.items in
    let seen = numbers-seen f _ c.self.inside.home.items c.args.self.now c.self.view_is in
    let read = number-read f c.self.inside.home.items c.args.node c.index.result.now c.get-head.result c.index.ensures c.get-head.ensures.number in
    home-none-answer raw c.self.invariant seen c.args.node c.get-head.result c.requires.node read (c.if-head-most.true ∙ c.most.ensures)

pub returns-else-head-most : goal.returns-else-head-most
returns-else-head-most g c =
    let f = g.W.Width.number in
    let raw = map f c.self.inside.home.items in
    let seen = numbers-seen f _ c.self.inside.home.items c.args.self.now c.self.view_is in
    let read = number-read f c.self.inside.home.items c.args.node c.index.result.now c.get-head.result c.index.ensures c.get-head.ensures.number in
    home-some-answer raw c.self.invariant seen c.args.node c.get-head.result c.requires.node read (λ e. c.if-head-most.false (e ∙ sym c.most.ensures))
