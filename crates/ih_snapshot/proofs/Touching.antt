-- The cells of a footprint, listed or read: each is one of the instance's, and each is there once.
use Rattle.std.proofs.Common.{◌≡◌, ℕ, ◌+◌, ◌<◌, ◌≤◌, arith, refl, sym, ap, ◌∙◌, true, List, [], ◌∷◌, length}
use Rattle.std.specs.Prelude.{if◌then◌else◌, ◌==◌, map, All}
use Rattle.std.proofs.lemmas.Bool.{eq-eqb, or_left, or_right}
use Rattle.std.proofs.lemmas.List.{length-map}
use Rattle.std.proofs.lemmas.List.Elements.{All-nil, All-cons}
use Rattle.std.proofs.lemmas.List.Sums.{sum_by-cons}
use Rattle.ih_tables.specs.declared.drafts.Draft.{Draft}
use Rattle.ih_plan.specs.declared.moves.Move.{Move}
use Rattle.ih_plan.specs.Timetable.{Timetable}
use Rattle.ih_plan.specs.Sums.{bit, tagged}
use Rattle.ih_plan.specs.Cells.{cell_at, cell_count}
use Rattle.ih_plan.proofs.ListedBelow.{has, tagged-keys}
use Rattle.ih_plan.proofs.SumLemmas.{sum_below-le, length-which_below}
use Rattle.ih_plan.specs.Series.{all_touch, footprint_of_all}
use Rattle.ih_plan.proofs.TestLemmas.{bit-most}
use Rattle.ih_cellbook.specs.Counters.{times_read}
use Rattle.ih_cellbook.proofs.Committing.{footprint-below, footprint-touches}
use Rattle.ih_cellbook.proofs.TimesRead.{times-once}
use Rattle.ih_snapshot.specs.Noting.{times_listed}

-- the numbers of the cells that were read
abbrev pub keys : List (ℕ × ℕ) → List ℕ
keys reads = map (λ (r : ℕ × ℕ). r.0) reads

all-below : (n : ℕ) (xs : List ℕ) → ((i : ℕ) → has i xs ≡ true → i < n) → All (λ (x : ℕ). x < n) xs
all-below n [] h = All-nil (λ (x : ℕ). x < n)
all-below n (x ∷ xs) h =
    All-cons (λ (x : ℕ). x < n) x xs (h x (or_left (x == x) (has x xs) (eq-eqb x x refl))) (all-below n xs (λ i there. h i (or_right (x == i) (has i xs) there)))

keys-below : (n : ℕ) (rs : List (ℕ × ℕ)) → ((i : ℕ) → has i (keys rs) ≡ true → i < n) → All (λ (r : ℕ × ℕ). r.0 < n) rs
keys-below n [] h = All-nil (λ (r : ℕ × ℕ). r.0 < n)
keys-below n (r ∷ rs) h =
    All-cons (λ (r : ℕ × ℕ). r.0 < n) r rs (h r.0 (or_left (r.0 == r.0) (has r.0 (keys rs)) (eq-eqb r.0 r.0 refl)))
    (keys-below n rs (λ i there. h i (or_right (r.0 == i) (has i (keys rs)) there)))

times-keys : (n : ℕ) (rs : List (ℕ × ℕ)) → times_read n rs ≡ times_listed n (keys rs)
times-keys n [] = refl
times-keys n (r ∷ rs) =
    let rest = times-keys n rs in
    let left = sum_by-cons (λ (r : ℕ × ℕ). if r.0 == n then 1 else 0) r rs in
    let right = sum_by-cons (λ (x : ℕ). if x == n then 1 else 0) r.0 (keys rs) in
    left ∙ ap (λ k. (if r.0 == n then 1 else 0) + k) rest ∙ sym right

module _ (I : Draft) (P : Timetable) (m : List Move) where
  pub foot-below : All (λ (n : ℕ). n < cell_count I) (footprint_of_all I P m)
  foot-below = all-below (cell_count I) (footprint_of_all I P m) (footprint-below I P m)

  pub foot-short : length (footprint_of_all I P m) ≤ cell_count I
  unfolding footprint_of_all
  foot-short =
      let len = length-which_below (cell_count I) (λ n. all_touch I P m (cell_at I n)) in
      let most = sum_below-le (cell_count I) 1 (λ n. bit (all_touch I P m (cell_at I n))) (λ n h. bit-most (all_touch I P m (cell_at I n))) in
      omega (arith, len, most)

  pub foot-times : (n : ℕ) → n < cell_count I → times_listed n (footprint_of_all I P m) ≡ bit (all_touch I P m (cell_at I n))
  unfolding footprint_of_all
  foot-times n h =
      sym (times-keys n (tagged (λ i. 0) (footprint_of_all I P m)) ∙ ap (times_listed n) (tagged-keys (λ i. 0) (footprint_of_all I P m)))
      ∙ times-once (cell_count I) n (λ i. 0) (λ i. all_touch I P m (cell_at I i)) h
      ∙ ap bit (footprint-touches I P m n h)

  -- the same of pairs with these numbers
  module _ (rs : List (ℕ × ℕ)) (own : keys rs ≡ footprint_of_all I P m) where
    pub reads-below : All (λ (r : ℕ × ℕ). r.0 < cell_count I) rs
    reads-below = keys-below (cell_count I) rs (λ i there. footprint-below I P m i (sym (ap (has i) own) ∙ there))

    pub reads-short : length rs ≤ cell_count I
    reads-short =
        let len = length-map {B = ℕ} rs (λ (r : ℕ × ℕ). r.0) in
        let same = ap length own in
        let short = foot-short in
        omega (arith, len, same, short)

    pub reads-times : (n : ℕ) → n < cell_count I → times_read n rs ≡ bit (all_touch I P m (cell_at I n))
    reads-times n h = times-keys n rs ∙ ap (times_listed n) own ∙ foot-times n h

-- listed cells of a footprint, where the instance goes by another name
pub listed-below : (I J : Draft) (P : Timetable) (m : List Move) (ns vs : List ℕ) → ns ≡ footprint_of_all J P m → J ≡ I → length vs ≡ cell_count I → All (λ (n : ℕ). n < length vs) ns
listed-below I J P m ns vs own same len = rw (own, same, len) (foot-below I P m)

pub listed-short : (I J : Draft) (P : Timetable) (m : List Move) (ns : List ℕ) → ns ≡ footprint_of_all J P m → J ≡ I → length ns ≤ cell_count I
listed-short I J P m ns own same = rw (own, same) (foot-short I P m)
