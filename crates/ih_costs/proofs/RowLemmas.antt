-- Moves in a row, the first of them and the others.
use Rattle.std.proofs.Common.{◌≡◌, refl, sym, ap, subst, ◌∙◌, false, List, [], ◌∷◌, length}
use Rattle.std.specs.Prelude.{◌||◌}
use Rattle.std.proofs.Math.Bool.{or-false}
use Rattle.std.proofs.lemmas.List.{nil_from_length}
use Rattle.ih_tables.specs.declared.drafts.Draft.{Draft}
use Rattle.ih_tables.specs.Bills.{add_bills, zero_bill}
use Rattle.ih_tables.specs.Sizes.{sizes_of}
use Rattle.ih_plan.specs.declared.moves.Move.{Move}
use Rattle.ih_plan.specs.declared.moves.Write.{Write}
use Rattle.ih_plan.specs.Timetable.{Timetable}
use Rattle.ih_plan.specs.Writes.{put_all}
use Rattle.ih_plan.specs.Expand.{after, expand}
use Rattle.ih_plan.specs.BillOf.{change_of_bill}
use Rattle.ih_plan.specs.Cells.{number_in, IsCellIn, cell_at, cell_count}
use Rattle.ih_plan.specs.Footprint.{touches, footprint}
use Rattle.ih_plan.specs.Sums.{is_listed}
use Rattle.ih_plan.proofs.ListedBelow.{which_below-same}
use Rattle.ih_footprint.specs.CellsState.{CellsState, Gathers, settled}
use Rattle.ih_footprint.proofs.GatherLemmas.{gathers-both, gathers-like, gathers-none, settled-gathered}
use Rattle.ih_plan.specs.Series.{after_all, all_touch, footprint_of_all, price_of_all}
use Rattle.ih_plan.proofs.ChangeSums.{change-then, change-same}

-- the first of some, where no others are later
pub alone : {m : Move} {ms later : List Move} → ms ≡ m ∷ later → length later ≡ 0 → ms ≡ m ∷ []
alone {m} {ms} {later} first none = first ∙ ap (λ ks. m ∷ ks) (nil_from_length later none)

-- a move that is made where the timetable is P
pub made-there : (I : Draft) {P R : Timetable} (m : Move) {ws : List Write} → R ≡ P → ws ≡ expand I R m → put_all ws R ≡ after I P m
made-there I {P} {R} m {ws} same made = ap (λ xs. put_all xs R) made ∙ ap (λ Q. after I Q m) same

-- ---- what they leave

pub after-none : (I : Draft) (P : Timetable) (ms : List Move) → ms ≡ [] → P ≡ after_all I P ms
unfolding after_all
after-none I P ms none = ap (after_all I P) (sym none)

pub after-more : (I : Draft) (P : Timetable) (m : Move) (ms : List Move) → after_all I (after I P m) ms ≡ after_all I P (m ∷ ms)
unfolding after_all
after-more I P m ms = refl

-- ---- what they cost

pub price-none : (I : Draft) (P : Timetable) (ms : List Move) → ms ≡ [] → zero_bill ≡ price_of_all I P ms
unfolding after_all
price-none I P ms none = change-same I P ∙ ap (price_of_all I P) (sym none)

pub price-more : (I : Draft) (P : Timetable) (m : Move) (ms : List Move)
    → add_bills (change_of_bill I P (after I P m)) (price_of_all I (after I P m) ms) ≡ price_of_all I P (m ∷ ms)
unfolding after_all
price-more I P m ms = change-then I P (after I P m) (after_all I (after I P m) ms)

pub single-price : (I : Draft) (P : Timetable) (m : Move) (ms : List Move) → ms ≡ m ∷ []
    → change_of_bill I P (after I P m) ≡ price_of_all I P ms
unfolding after_all
single-price I P m ms one = ap (price_of_all I P) (sym one)

-- ---- what they touch

pub gathers-no-moves : (I : Draft) (P : Timetable) (ms : List Move) (v : CellsState) → ms ≡ [] → Gathers v v (all_touch I P ms)
unfolding all_touch
gathers-no-moves I P ms v none = subst (λ ks. Gathers v v (all_touch I P ks)) (sym none) (gathers-none (λ c. refl))

pub gathers-more-moves : (I : Draft) (P : Timetable) (m : Move) (ms : List Move) (u v w : CellsState) → Gathers u v (touches I P m)
    → Gathers v w (all_touch I (after I P m) ms) → Gathers u w (all_touch I P (m ∷ ms))
unfolding all_touch
gathers-more-moves I P m ms u v w first others = gathers-like (λ c range. refl) (gathers-both first others)

-- the first of moves is gathered, and then the others, past the writes that it makes
pub gathers-behind : (I : Draft) (P : Timetable) (made : List Write) {u v w : CellsState} {ws : List Write} {moves ms : List Move} {m : Move}
    → ws ≡ [] → moves ≡ m ∷ ms → put_all made P ≡ after I P m → Gathers u v (touches I P m)
    → Gathers v w (all_touch I (put_all made P) ms) → Gathers u w (all_touch I (put_all ws P) moves)
gathers-behind I P made {u} {v} {w} {ws} {moves} {ms} {m} none first there one others =
    let past : Gathers v w (all_touch I (after I P m) ms) = subst (λ (Q : Timetable). Gathers v w (all_touch I Q ms)) there others in
    let whole = gathers-more-moves I P m ms u v w one past in
    subst (λ (ks : List Write). Gathers u w (all_touch I (put_all ks P) moves)) (sym none)
    (subst (λ (ks : List Move). Gathers u w (all_touch I P ks)) (sym first) whole)

pub gathers-one-move : (I : Draft) (P : Timetable) (m : Move) (ms : List Move) (u v : CellsState) → ms ≡ m ∷ []
    → Gathers u v (touches I P m) → Gathers u v (all_touch I P ms)
unfolding all_touch
gathers-one-move I P m ms u v one first =
    subst (λ ks. Gathers u v (all_touch I P ks)) (sym one) (gathers-like (λ c range. sym (or-false (touches I P m c))) first)

-- what is gathered from nothing is written as their footprint
pub gathered-series : (I : Draft) (P : Timetable) (ms : List Move) (u w : CellsState) → u.sizes ≡ sizes_of I → u.cells ≡ []
    → Gathers u w (all_touch I P ms) → settled w ≡ footprint_of_all I P ms
unfolding footprint_of_all
gathered-series I P ms u w sizes none all =
    settled-gathered I w (all_touch I P ms) (all.sizes ∙ sizes) (λ c range.
    all.cells c (subst (λ z. IsCellIn z c) (sym sizes) range)
    ∙ ap (λ ns. is_listed (number_in u.sizes c) ns || all_touch I P ms c) none)

pub single-footprint : (I : Draft) (P : Timetable) (m : Move) (ms : List Move) → ms ≡ m ∷ []
    → footprint I P m ≡ footprint_of_all I P ms
unfolding all_touch footprint footprint_of_all
single-footprint I P m ms one =
    which_below-same (cell_count I) (λ n. touches I P m (cell_at I n)) (λ n. touches I P m (cell_at I n) || false)
    (λ n h. sym (or-false (touches I P m (cell_at I n))))
    ∙ ap (footprint_of_all I P) (sym one)
