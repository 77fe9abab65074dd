-- How many entries a seat has made.
use Rattle.std.proofs.Common.{◌≡◌, ℕ, ◌+◌, ◌-◌, ◌≤◌, ◌≢◌, Bool, false, eqb, eq-eqb, ne_eqb, cond, List, [], ◌∷◌, ◌++◌, length, drop, refl, sym, subst, ap, ◌∙◌, ⊎_elim, length-append, arith}
use Rattle.std.specs.Prelude.{All, count_by}
use Rattle.std.proofs.lemmas.List.{drop-append-le}
use Rattle.std.proofs.lemmas.List.Elements.{All-nil, All-cons, All-head, All-tail}
use Rattle.std.proofs.lemmas.List.Sums.{sum_by-cons, sum_by-append, sum_by_push}
use Rattle.ih_turn.specs.declared.view.View.{View}
use Rattle.ih_turn.specs.Rule.{GoesOn, AddsAtMostOne, added_by, made_by}

module _ {E : Type 0} (maker : E → ℕ) where
  abbrev mine : ℕ → E → Bool
  mine n e = eqb (maker e) n

  none_count : (n : ℕ) (xs : List E) → All (λ e. maker e ≢ n) xs → count_by (mine n) xs ≡ 0
  none_count n [] all = refl
  none_count n (x ∷ xs) all = let here : mine n x ≡ false = ne_eqb (maker x) n (All-head (λ e. maker e ≢ n) x xs all) in
      let one : cond {A = ℕ} (mine n x) 1 0 ≡ 0 = ap (λ (b : Bool). cond {A = ℕ} b 1 0) here in
      let more = none_count n xs (All-tail (λ e. maker e ≢ n) x xs all) in let sum = sum_by-cons (λ e. cond (mine n e) 1 0) x xs in omega arith

  -- what is past the entries that a seat had seen adds nothing to its own
  pub same_count : (n start : ℕ) (xs seen : List E) → start ≤ length seen → GoesOn maker n seen xs → count_by (mine n) (drop start xs) ≡ count_by (mine n) (drop start seen)
  same_count n start xs seen long f = let parts : drop start xs ≡ drop start seen ++ f.others = ap (drop start) f.history ∙ drop-append-le start seen f.others long in
      let sum = sum_by-append (λ e. cond (mine n e) 1 0) (drop start seen) f.others in let none = none_count n f.others f.none in
      let all : count_by (mine n) (drop start xs) ≡ count_by (mine n) (drop start seen ++ f.others) = ap (count_by (mine n)) parts in omega arith

  -- the count goes up by what was added
  pub more_count : (n start : ℕ) (xs ys : List E) → start ≤ length xs → AddsAtMostOne maker n xs ys
      → (length xs ≤ length ys) × (count_by (mine n) (drop start ys) ≡ count_by (mine n) (drop start xs) + (length ys - length xs))
  more_count n start xs ys long adds = ⊎_elim
      (λ (same : ys ≡ xs). let l : length ys ≡ length xs = ap length same in let c : count_by (mine n) (drop start ys)
      ≡ count_by (mine n) (drop start xs) = ap (λ (z : List E). count_by (mine n) (drop start z)) same in (omega arith, omega arith))
      (λ (a : (e : E) × (ys ≡ xs ++ e ∷ []) × (maker e ≡ n)). let l : length ys ≡ length (xs ++ a.0 ∷ []) = ap length a.1 in let l' = length-append xs (a.0 ∷ []) in
      let parts : drop start ys ≡ drop start xs ++ a.0 ∷ [] = ap (drop start) a.1
      ∙ drop-append-le start xs (a.0 ∷ []) long in let all : count_by (mine n) (drop start ys)
      ≡ count_by (mine n) (drop start xs ++ a.0 ∷ []) = ap (count_by (mine n)) parts in
      let sum = sum_by_push (λ e. cond (mine n e) 1 0) (drop start xs) a.0 in let one : cond {A = ℕ} (mine n a.0) 1 0
      ≡ 1 = ap (λ (b : Bool). cond {A = ℕ} b 1 0) (eq-eqb (maker a.0) n a.2) in (omega arith, omega arith)) adds

module _ {A E D : Type 0} (maker : E → ℕ) (number : A → ℕ) (view : A → View E D) (start : ℕ) (xs : List E) where
  -- what each seat has made is what was added by its number
  pub made_at_end : (seats : List A) → ((s : A) → (number s ≡ (view s).number) × ((view s).start ≤ length (view s).seen))
      → All (λ s. (view s).start ≡ start) seats → All (λ s. GoesOn maker (number s) (view s).seen xs) seats
      → All (λ s. made_by maker (view s) ≡ added_by maker (number s) start xs) seats
  made_at_end [] own started follows = All-nil (λ s. made_by maker (view s) ≡ added_by maker (number s) start xs)
  made_at_end (s ∷ ss) own started follows = let v = view s in let is = (own s).0 in let f : GoesOn maker v.number v.seen xs = subst
      (λ (n : ℕ). GoesOn maker n v.seen xs) is (All-head (λ s. GoesOn maker (number s) (view s).seen xs) s ss follows) in
      All-cons (λ s. made_by maker (view s) ≡ added_by maker (number s) start xs) s ss
      (sym (same_count maker v.number v.start xs v.seen (own s).1 f) ∙ ap (λ (z : ℕ × ℕ). added_by maker z.0 z.1 xs) (λ i. (sym is i, All-head (λ s. (view s).start ≡ start) s ss started i)))
      (made_at_end ss own (All-tail (λ s. (view s).start ≡ start) s ss started) (All-tail (λ s. GoesOn maker (number s) (view s).seen xs) s ss follows))
