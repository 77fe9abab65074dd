-- A worker on its way, once it has made an attempt.
use Rattle.std.proofs.Common.{◌≡◌, ◌∙◌, inl, inr, ap, subst, sym, List}
use Rattle.std.specs.Prelude.{◌⊎◌}
use Rattle.ih_plan.specs.declared.moves.Move.{Move}
use Rattle.ih_plan.specs.Timetable.{Timetable}
use Rattle.ih_plan.specs.Series.{after_all}
use Rattle.ih_improve.specs.Following.{MayStand}
use Rattle.ih_improve.specs.Legs.{LegState, terms_of_leg}
use Rattle.ih_improve.specs.WalkerState.{IsUnderway, WalkerState}

-- moves are made that lead to where the worker may stand, and the best is that or the one before
pub underway-more : (s : LegState) (v w : WalkerState) (ms : List Move) → IsUnderway s v
    → MayStand (terms_of_leg s) (after_all s.instance v.now ms) → w.instance ≡ v.instance → w.now ≡ after_all v.instance v.now ms
    → (w.best ≡ v.best) ⊎ (w.best ≡ w.now) → IsUnderway s w
underway-more s v w ms on stands same now best =
    let here : w.now ≡ after_all s.instance v.now ms = now ∙ ap (λ I. after_all I v.now ms) on.instance in
    let stands_here : MayStand (terms_of_leg s) w.now = subst (MayStand (terms_of_leg s)) (sym here) stands in
    record { instance = same ∙ on.instance; now = stands_here; best = by_best best stands_here }
  where
    by_best : (w.best ≡ v.best) ⊎ (w.best ≡ w.now) → MayStand (terms_of_leg s) w.now → MayStand (terms_of_leg s) w.best
    by_best (inl before) here = subst (MayStand (terms_of_leg s)) (sym before) on.best
    by_best (inr is) here = subst (MayStand (terms_of_leg s)) (sym is) here
