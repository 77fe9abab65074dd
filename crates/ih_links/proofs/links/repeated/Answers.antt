use Rattle.std.proofs.Common.{◌++◌, ◌∷◌, [], ◌∙◌, ap}
use Rattle.std.proofs.lemmas.List.{replicate_more}
use Rattle.ih_links.proofs.Numbers.{number-push}
use Rattle.ih_links.proofs.links.repeated.Goals as goal

pub loop-preserved : goal.loop-preserved
loop-preserved g c =
    number-push g.W.Width.number c.loop.all.items c.push.new.self.items c.of.result c.args.first c.in_ok-push.ensures.items c.of.ensures
    ∙ (ap (λ ns. ns ++ c.args.first ∷ []) c.loop.invariant ∙ replicate_more c.loop.counter c.args.first)
