-- Moves that leave the choices that stay as they are.
use Rattle.std.proofs.Common.{◌≡◌, false, List, [], ◌∷◌}
use Rattle.std.specs.List.{list_any}
use Rattle.ih_plan.specs.declared.moves.Move.{Move}
use Rattle.ih_plan.specs.Expand.{IsMoveOf, after}
use Rattle.ih_plan.specs.Series.{AreMoves, after_all}
use Rattle.ih_plan.specs.Timetable.{Timetable}
use Rattle.ih_plan.proofs.Keeping.{neither}
use Rattle.ih_plan.proofs.PlanRanges.{after-plan}
use Rattle.ih_improve.specs.Following.{MayStand}
use Rattle.ih_improve.specs.Frozen.{may_be_frozen}
use Rattle.ih_improve.specs.Kept.{may_be_kept}
use Rattle.ih_improve.specs.Pinned.{may_be_pinned}
use Rattle.ih_improve.specs.Terms.{Terms}
use Rattle.ih_improve.proofs.FrozenMoves.{keeps-move as frozen-move}
use Rattle.ih_improve.proofs.PinnedMoves.{keeps-move as pinned-move}

module _ (t : Terms) where
  one-stands : (P : Timetable) (m : Move) → MayStand t P → IsMoveOf t.instance m → may_be_kept t m ≡ false → MayStand t (after t.instance P m)
  one-stands P m on fits free =
      let parts = neither (may_be_frozen t.start t.settings.freeze m) (may_be_pinned t.instance t.start t.pins m) free in
      record {
        plan = after-plan t.instance P m on.plan fits;
        frozen = frozen-move t.instance t.start t.settings.freeze P on.frozen m on.plan fits parts.0;
        pinned = pinned-move t.instance t.start t.pins P m on.plan fits on.pinned parts.1;
      }

  -- a worker may stand where such moves lead
  pub all-stands : (ms : List Move) → AreMoves t.instance ms → list_any (may_be_kept t) ms ≡ false → (P : Timetable) → MayStand t P
      → MayStand t (after_all t.instance P ms)
  unfolding after_all
  all-stands [] fit none P on = on
  all-stands (m ∷ ms) fit none P on =
      let parts = neither (may_be_kept t m) (list_any (may_be_kept t) ms) none in
      all-stands ms fit.1 parts.1 (after t.instance P m) (one-stands P m on fit.0 parts.0)
