use Rattle.std.proofs.Common.{◌∙◌, ℕ, List, [], ◌∷◌, ◌++◌, ap₂, sym}
use Rattle.ih_bound.specs.Hints.{list_below, points_at}
use Rattle.ih_bound.specs.Tariffs.{tariff_of}
use Rattle.ih_bound.proofs.Telling.{list_below-more}
use Rattle.ih_bound.proofs.hints.all_points.Goals as goal

pub loop-place-init : goal.loop-place-init
unfolding list_below
loop-place-init c = c.new-list.ensures.items

pub loop-place-preserved : goal.loop-place-preserved
loop-place-preserved c =
    let I = c.args.inst.now.draft in
    c.in_ok-push.ensures.items
    ∙ ap₂ (λ (xs : List ℕ) (x : ℕ). xs ++ x ∷ []) c.loop-place.invariant c.points_at.ensures
    ∙ sym (list_below-more c.loop-place.place (points_at I c.args.rates.now (tariff_of I c.args.rates.now c.args.prices.now)))
