-- How often a cell is read: once where it is in the footprint.
use Rattle.std.proofs.Common.{◌≡◌, ℕ, zero, suc, ◌+◌, ◌<◌, refl, arith, sym, ap, ◌∙◌, subst, Bool, List, [], ◌∷◌, inl, inr}
use Rattle.std.specs.Prelude.{if◌then◌else◌, ◌==◌, map, sum_by}
use Rattle.std.proofs.lemmas.Bool.{cases_eq, eq-eqb, ne_eqb}
use Rattle.std.proofs.lemmas.List.Sums.{sum_by-cons}
use Rattle.ih_plan.specs.Sums.{bit, sum_below, which_below, is_listed}
use Rattle.ih_plan.proofs.ListedBelow.{has-listed, has-which_below}
use Rattle.ih_plan.proofs.SumLemmas.{sum_below-same, sum_by-which_below}
use Rattle.ih_plan.proofs.SumBounds.{sum_below-none}
use Rattle.ih_plan.proofs.TestLemmas.{if-bit, if-none}
use Rattle.ih_cellbook.specs.Counters.{times_read}

abbrev one-at : ℕ → ℕ → ℕ
one-at n i = if i == n then 1 else 0

times-keys : (n : ℕ) (f : ℕ → ℕ) (xs : List ℕ) → times_read n (map (λ x. (x, f x)) xs) ≡ sum_by (one-at n) xs
times-keys n f [] = refl
times-keys n f (x ∷ xs) =
    let rest = times-keys n f xs in
    let left = sum_by-cons (λ (r : ℕ × ℕ). if r.0 == n then 1 else 0) (x, f x) (map (λ x. (x, f x)) xs) in
    let right = sum_by-cons (one-at n) x xs in
    left ∙ ap (λ k. one-at n x + k) rest ∙ sym right

last-picked : (N : ℕ) (p : ℕ → Bool) → sum_below (suc N) (λ i. if p i then one-at N i else 0) ≡ bit (p N)
unfolding sum_below
last-picked N p =
    let before = sum_below-same N (λ i. if p i then one-at N i else 0) (λ i. 0) (λ i l. rw (ne_eqb i N (λ e. omega arith)) (if-none (p i))) in
    let none = sum_below-none N in
    let here : (if p N then one-at N N else 0) ≡ bit (p N) = rw (eq-eqb N N refl) (if-bit (p N)) in
    omega (arith, before, none, here)

picked : (N n : ℕ) (p : ℕ → Bool) → n < N → sum_below N (λ i. if p i then one-at n i else 0) ≡ bit (p n)
unfolding sum_below
picked zero n p h = absurd (omega arith)
picked (suc N) n p h = elim (cases_eq n N) [
  | inl last ↦ subst (λ k. sum_below (suc N) (λ i. if p i then one-at k i else 0) ≡ bit (p k)) (sym last) (last-picked N p)
  | inr other ↦
      let rest = picked N n p (omega arith) in
      let here : (if p N then one-at n N else 0) ≡ 0 = rw (ne_eqb N n (λ e. other (sym e))) (if-none (p N)) in
      omega (arith, rest, here)
]

-- a cell of a rising list of those that pass is read once
pub times-once : (N n : ℕ) (f : ℕ → ℕ) (p : ℕ → Bool) → n < N → times_read n (map (λ x. (x, f x)) (which_below N p)) ≡ bit (is_listed n (which_below N p))
times-once N n f p h =
    times-keys n f (which_below N p) ∙ sum_by-which_below (one-at n) N p ∙ picked N n p h
    ∙ ap bit (sym (has-which_below N n p h) ∙ has-listed n (which_below N p))
