-- Cells that are gathered at the timetable before a move are those of its footprint.
use Rattle.std.proofs.Common.{◌≡◌, ℕ, refl, sym, ap, subst, ◌∙◌, Bool, true, false, []}
use Rattle.std.specs.Prelude.{◌||◌}
use Rattle.ih_tables.specs.declared.drafts.Draft.{Draft}
use Rattle.ih_tables.specs.Sizes.{sizes_of}
use Rattle.ih_plan.specs.declared.moves.Move.{Move}
use Rattle.ih_plan.specs.Timetable.{Timetable, IsPlanOf}
use Rattle.ih_plan.specs.Expand.{expand, IsMoveOf}
use Rattle.ih_plan.specs.Sums.{is_listed}
use Rattle.ih_plan.specs.Cells.{number_in, IsCellIn}
use Rattle.ih_plan.specs.Footprint.{looks_at, touches, footprint}
use Rattle.ih_footprint.specs.CellsState.{CellsState, Gathers, settled}
use Rattle.ih_footprint.proofs.GatherLemmas.{gathers-both, gathers-like, settled-footprint}
use Rattle.ih_costs.specs.AtOnce.{touch_at_once}
use Rattle.ih_costs.proofs.AtOnceLemmas.{at-once}

or-comm : (a b : Bool) → (a || b) ≡ (b || a)
or-comm true true = refl
or-comm true false = refl
or-comm false true = refl
or-comm false false = refl

-- What a move looks at is listed in v from nothing, and s has that beside what t has. From there the writes' cells are
-- gathered in w: from t on, all cells of the move's footprint.
pub gathered-touches : (I : Draft) (P : Timetable) (m : Move) (t u v s w : CellsState) → IsPlanOf I P → IsMoveOf I m
    → u.sizes ≡ sizes_of I → u.cells ≡ [] → Gathers u v (looks_at m)
    → t.sizes ≡ sizes_of I → s.sizes ≡ t.sizes → ((n : ℕ) → is_listed n s.cells ≡ (is_listed n t.cells || is_listed n v.cells))
    → Gathers s w (touch_at_once I P (expand I P m)) → Gathers t w (touches I P m)
unfolding touches
gathered-touches I P m t u v s w plan fits sizes none looked ranged same_sizes both touched =
    let placed : Gathers t s (looks_at m) = record {
      sizes = same_sizes;
      cells = λ c range.
          ap (λ z. is_listed (number_in z c) s.cells) same_sizes
          ∙ (both (number_in t.sizes c)
          ∙ ap (λ b. is_listed (number_in t.sizes c) t.cells || b)
          (ap (λ z. is_listed (number_in z c) v.cells) (ranged ∙ sym (looked.sizes ∙ sizes))
          ∙ (looked.cells c (subst (λ z. IsCellIn z c) (ranged ∙ sym sizes) range)
          ∙ ap (λ ns. is_listed (number_in u.sizes c) ns || looks_at m c) none)));
    } in
    gathers-like (λ c range.
    or-comm (looks_at m c) (touch_at_once I P (expand I P m) c)
    ∙ ap (λ b. b || looks_at m c) (at-once I P m c plan fits)) (gathers-both placed touched)

-- What is gathered from nothing is written as the move's footprint.
pub gathered-footprint : (I : Draft) (P : Timetable) (m : Move) (u w : CellsState) → u.sizes ≡ sizes_of I → u.cells ≡ []
    → Gathers u w (touches I P m) → settled w ≡ footprint I P m
gathered-footprint I P m u w sizes none all =
    settled-footprint I P m w (all.sizes ∙ sizes) (λ c range.
    all.cells c (subst (λ z. IsCellIn z c) (sym sizes) range)
    ∙ ap (λ ns. is_listed (number_in u.sizes c) ns || touches I P m c) none)
