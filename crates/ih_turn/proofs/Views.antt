-- Views by index, and lists that go on.
use Rattle.std.proofs.Common.{◌≡◌, ℕ, zero, suc, ◌+◌, ◌-◌, ◌*◌, ◌<◌, ◌≤◌, ◌≢◌, Bool, true, false, List, [], ◌∷◌, ◌++◌, map, length, get_or, take, drop, drop-cons, set, sym, refl, ap, ◌∙◌, subst, ⊎_elim, append_assoc, suc-mul, length-append, arith}
use mathlib.Core.Option.{some, some-injective, some-ne-none}
use mathlib.Core.Logic.{dite}
use native.Mathlib.Decide.{ℕ_discrete, dec_lt}
use lib.ListN.{get_elem?}
use Rattle.std.specs.Prelude.{Option, Some, None, All}
use Rattle.std.proofs.lemmas.List.{append-nil, drop_at, drop-drop, map-append, get_or_append_left, get_or_push, length-map, take-append-drop}
use Rattle.std.proofs.lemmas.List.Elements.{All-nil, All-cons, All-push, All-drop, All-append, All-head, All-tail, All-weaker}
use Rattle.atomic_table.proofs.Lists.{at_set, set_else, set_here}
use Rattle.ih_turn.specs.declared.view.View.{View}
use Rattle.ih_turn.specs.Rule.{GoesOn, AreNumberedFromOne, HasNumber, all_left}

pub not_true : (b : Bool) → (b ≡ true → ⊥) → b ≡ false
not_true true never = absurd (never refl)
not_true false never = refl

pub some_same : {A : Type 0} (a b : A) → Some a ≡ Some b → a ≡ b
some_same a b e = (cc)

-- the value of the slot that was taken last
abbrev pub in_hand : {A : Type 0} → List (ℕ × Option A) → Option A
in_hand [] = None
in_hand (x ∷ xs) = x.1

module _ {A : Type 0} where
  pub nothing_there : (a : A) (i : ℕ) → get_elem? [] i ≡ some a → ⊥
  nothing_there a i e = some-ne-none a (sym e)

  pub in_range : (l : List A) (i : ℕ) (a : A) → get_elem? l i ≡ some a → i < length l
  in_range [] i a e = absurd (some-ne-none a (sym e))
  in_range (x ∷ xs) zero a e = omega arith
  in_range (x ∷ xs) (suc i) a e = let h = in_range xs i a e in omega arith

  pub same_at : (l : List A) (i : ℕ) (a b : A) → get_elem? l i ≡ some a → get_elem? l i ≡ some b → a ≡ b
  same_at l i a b p q = some-injective a b (sym p ∙ q)

  -- what holds of the new element and of all others holds of each
  pub on_set : (P : ℕ → A → Type 0) (l : List A) (me : ℕ) (w : A) → P me w → ((j : ℕ) (x : A) → j ≢ me → get_elem? l j ≡ some x → P j x) → (j : ℕ) (x : A) → get_elem? (set l me w) j ≡ some x → P j x
  on_set P l me w mine others j x e = ⊎_elim (λ (t : (j ≡ me) × (w ≡ x)). subst (λ (z : ℕ × A). P z.0 z.1) (λ i. (sym t.0 i, t.1 i)) mine)
      (λ (t : (j ≢ me) × (get_elem? l j ≡ some x)). others j x t.0 t.1) (at_set l me j w x e)

  -- what holds of each element after a write holds of all others before
  pub before_set : (P : ℕ → A → Type 0) (l : List A) (me : ℕ) (v w : A) → get_elem? l me ≡ some v → P me v
      → ((j : ℕ) (x : A) → get_elem? (set l me w) j ≡ some x → P j x) → (j : ℕ) (x : A) → get_elem? l j ≡ some x → P j x
  before_set P l me v w at mine all j x e = dite (ℕ_discrete j me)
      (λ is. let same : v ≡ x = same_at l me v x at (subst (λ (z : ℕ). get_elem? l z ≡ some x) is e) in subst (λ (z : ℕ × A). P z.0 z.1) (λ i. (sym is i, same i)) mine)
      (λ other. all j x (set_else l me j w other ∙ e))

  -- an element that is there stays so after a write, where what holds of the old one holds of the new one
  pub there_set : (P : A → Type 0) (l : List A) (me : ℕ) (v w : A) → get_elem? l me ≡ some v → (P v → P w) → (i : ℕ) × (x : A) × (get_elem? l i ≡ some x) × P x
      → (i : ℕ) × (x : A) × (get_elem? (set l me w) i ≡ some x) × P x
  there_set P l me v w at keeps t = dite (ℕ_discrete t.0 me)
      (λ is. let same : v ≡ t.1 = same_at l me v t.1 at (subst (λ (z : ℕ). get_elem? l z ≡ some t.1) is t.2) in (me, w, set_here l me w (in_range l me v at), keeps (subst P (sym same) t.3)))
      (λ other. (t.0, t.1, set_else l me t.0 w other ∙ t.2, t.3))

  -- what holds of the one more and of all others holds of each
  pub on_push : (P : ℕ → A → Type 0) (l : List A) (w : A) → P (length l) w → ((j : ℕ) (x : A) → get_elem? l j ≡ some x → P j x) → (j : ℕ) (x : A) → get_elem? (l ++ w ∷ []) j ≡ some x → P j x
  on_push P [] w mine others zero x e = subst (P 0) (some-injective w x e) mine
  on_push P [] w mine others (suc j) x e = absurd (some-ne-none x (sym e))
  on_push P (y ∷ ys) w mine others zero x e = others zero x e
  on_push P (y ∷ ys) w mine others (suc j) x e = on_push (λ i. P (suc i)) ys w mine (λ i z q. others (suc i) z q) j x e

  -- the rest of a list that was cut earlier holds less
  pub later_rest : (P : A → Type 0) (xs a r b q : List A) → xs ≡ a ++ r → xs ≡ b ++ q → length a ≤ length b → All P r → All P q
  later_rest P xs a r b q p p' le all = let n : ℕ = length b in let s : q ≡ drop n xs = sym (ap (drop n) p' ∙ drop_at b q n refl) in let m : ℕ = n - length a in
      let t : drop n xs ≡ drop m r = ap (drop n) p
      ∙ (ap (λ (k : ℕ). drop k (a ++ r)) (let e : n ≡ length a + m = omega arith in e)
      ∙ (sym (drop-drop m (length a) (a ++ r)) ∙ ap (drop m) (drop_at a r (length a) refl))) in
      subst (All P) (sym (s ∙ t)) (All-drop P m r all)

module _ {E D : Type 0} where
  pub all_left_push : (vs : List (View E D)) (w : View E D) → all_left (vs ++ w ∷ []) ≡ all_left vs + w.left
  all_left_push [] w = omega arith
  all_left_push (x ∷ xs) w = let h = all_left_push xs w in omega arith

  pub all_left_set : (vs : List (View E D)) (i : ℕ) (v w : View E D) → get_elem? vs i ≡ some v → all_left (set vs i w) + v.left ≡ all_left vs + w.left
  all_left_set [] i v w e = absurd (some-ne-none v (sym e))
  all_left_set (x ∷ xs) zero v w e = let same : x.left ≡ v.left = ap (λ (z : View E D). z.left) (some-injective x v e) in omega arith
  all_left_set (x ∷ xs) (suc i) v w e = let h = all_left_set xs i v w e in omega arith

  pub left_within : (vs : List (View E D)) (i : ℕ) (v : View E D) → get_elem? vs i ≡ some v → v.left ≤ all_left vs
  left_within [] i v e = absurd (some-ne-none v (sym e))
  left_within (x ∷ xs) zero v e = let same : x.left ≡ v.left = ap (λ (z : View E D). z.left) (some-injective x v e) in omega arith
  left_within (x ∷ xs) (suc i) v e = let h = left_within xs i v e in omega arith

module _ {E : Type 0} (maker : E → ℕ) where
  pub goes_on-itself : (n : ℕ) (xs : List E) → GoesOn maker n xs xs
  goes_on-itself n xs = record { others = []; history = sym (append-nil xs); none = All-nil (λ e. maker e ≢ n) }

  pub goes_on-more : (n : ℕ) (xs seen : List E) (e : E) → maker e ≢ n → GoesOn maker n seen xs → GoesOn maker n seen (xs ++ e ∷ [])
  goes_on-more n xs seen e other f = record {
    others = f.others ++ e ∷ [];
    history = ap (λ (l : List E). l ++ e ∷ []) f.history ∙ append_assoc seen f.others (e ∷ []);
    none = All-push (λ x. maker x ≢ n) f.others e f.none other;
  }

pub map_more : {A C : Type 0} (f : A → C) (xs ys : List A) (y : A) (ts zs : List C) → zs ≡ map f xs ++ ts → xs ≡ ys ++ y ∷ [] → zs ≡ map f ys ++ f y ∷ ts
map_more f xs ys y ts zs e cut = e ∙ (ap (λ l. l ++ ts) (ap (map f) cut ∙ map-append f ys (y ∷ [])) ∙ append_assoc (map f ys) (f y ∷ []) ts)

module _ {A E : Type 0} (number : A → ℕ) (seen : A → List E) where
  abbrev Numbered : List A → List (ℕ × List E)
  Numbered = map (λ x. (number x, seen x))

  pub each_numbered : (P : ℕ × List E → Type 0) (xs : List A) → ((k : ℕ) (t : ℕ × List E) → get_elem? (Numbered xs) k ≡ some t → P t) → All (λ x. P (number x, seen x)) xs
  each_numbered P [] all = All-nil (λ x. P (number x, seen x))
  each_numbered P (x ∷ xs) all = All-cons (λ x. P (number x, seen x)) x xs (all 0 (number x, seen x) refl) (each_numbered P xs (λ k t e. all (suc k) t e))

  -- each has its mark
  pub all_have : (xs : List A) → All (λ x. HasNumber (Numbered xs) (number x)) xs
  all_have [] = All-nil (λ x. HasNumber (Numbered []) (number x))
  all_have (x ∷ xs) = All-cons (λ y. HasNumber (Numbered (x ∷ xs)) (number y)) x xs (0, (number x, seen x), refl, refl)
      (All-weaker (λ y. HasNumber (Numbered xs) (number y)) (λ y. HasNumber (Numbered (x ∷ xs)) (number y)) (λ y h. (suc h.0, h.1, h.2, h.3)) xs (all_have xs))

module _ {A : Type 0} (P : A → Type 0) where
  pub all_parts : (xs ys : List A) → All P (xs ++ ys) → All P xs × All P ys
  all_parts [] ys all = (All-nil P, all)
  all_parts (x ∷ xs) ys all = let h = all_parts xs ys (All-tail P x (xs ++ ys) all) in (All-cons P x xs (All-head P x (xs ++ ys) all) h.0, h.1)

  -- the last one goes back to its place
  pub all_back : (xs ys : List A) (r : A) → All P ((xs ++ ys) ++ r ∷ []) → All P (xs ++ r ∷ ys)
  all_back xs ys r all = let a = all_parts (xs ++ ys) (r ∷ []) all in let b = all_parts xs ys a.0 in All-append P xs (r ∷ ys) b.0 (All-cons P r ys (All-head P r [] a.1) b.1)

  -- without the one in the middle
  pub all_without : (xs ys : List A) (r : A) → All P (xs ++ r ∷ ys) → All P (xs ++ ys) × P r
  all_without xs ys r all = let a = all_parts xs (r ∷ ys) all in (All-append P xs ys a.0 (All-tail P r ys a.1), All-head P r ys a.1)

-- one seat fewer is left to split off
pub one_less : (r t : ℕ) → 0 < r → r * t - t ≡ (r - 1) * t
one_less zero t h = absurd (omega arith)
one_less (suc r) t h = let e : suc r * t ≡ r * t + t = suc-mul r t in let f : suc r - 1 ≡ r = omega arith in (let g : suc r * t - t ≡ r * t = omega arith in g) ∙ ap (λ (k : ℕ). k * t) (sym f)

pub one_more_numbered : {A : Type 0} (number : A → ℕ) (P : A → Type 0) (xs : List A) (y : A) → AreNumberedFromOne number P xs → number y ≡ length xs + 1 → P y
    → AreNumberedFromOne number P (xs ++ y ∷ [])
one_more_numbered number P xs y cut next ok = (
  λ k h. let l = length-append xs (y ∷ []) in let m = length-map xs number in let parts = map-append number xs (y ∷ []) in dite (dec_lt k (length xs))
      (λ before. ap (λ (l : List ℕ). get_or l k 0) parts ∙ (get_or_append_left (map number xs) (number y ∷ []) 0 k (omega arith) ∙ cut.0 k before))
      (λ after. let last : k ≡ length xs = omega arith in ap (λ (l : List ℕ). get_or l k 0) parts
      ∙ (get_or_push (map number xs) (number y) 0 k (m ∙ sym last) ∙ (next ∙ ap (λ (z : ℕ). z + 1) (sym last)))),
  All-push P xs y cut.1 ok,
)

module _ {A E : Type 0} (number : A → ℕ) (seen : A → List E) (bs cs : List A) (r : A) (ts : List (ℕ × List E)) (is : ts ≡ map (λ x. (number x, seen x)) (bs ++ cs) ++ (number r, seen r) ∷ []) where
  same_marks : map (λ x. (number x, seen x)) ((bs ++ cs) ++ r ∷ []) ≡ ts
  same_marks = map-append (λ x. (number x, seen x)) (bs ++ cs) (r ∷ []) ∙ sym is

  -- what holds of each mark holds of each seat
  pub all_close : (P : ℕ × List E → Type 0) → ((k : ℕ) (t : ℕ × List E) → get_elem? ts k ≡ some t → P t) → All (λ x. P (number x, seen x)) (bs ++ r ∷ cs)
  all_close P all = all_back (λ x. P (number x, seen x)) bs cs r (each_numbered number seen P ((bs ++ cs) ++ r ∷ []) (λ k t e. all k t (subst (λ l. get_elem? l k ≡ some t) same_marks e)))

  pub have_close : All (λ x. HasNumber ts (number x)) (bs ++ r ∷ cs)
  have_close = all_back (λ x. HasNumber ts (number x)) bs cs r (subst (λ l. All (λ x. HasNumber l (number x)) ((bs ++ cs) ++ r ∷ [])) same_marks (all_have number seen ((bs ++ cs) ++ r ∷ [])))

pub cut_at : {A : Type 0} (xs : List A) (i : ℕ) (r : A) → i < length xs → r ≡ get_or xs i r → xs ≡ take i xs ++ r ∷ drop (suc i) xs
cut_at xs i r h e = sym (take-append-drop i xs) ∙ ap (λ l. take i xs ++ l) (drop-cons xs i r h ∙ ap (λ z. z ∷ drop (suc i) xs) (sym e))

pub number_at : {A : Type 0} (number : A → ℕ) (xs : List A) (i : ℕ) (x : A) → i < length xs → x ≡ get_or xs i x → get_or (map number xs) i 0 ≡ number x
number_at number [] i x h e = absurd (omega arith)
number_at number (y ∷ ys) zero x h e = ap number (sym e)
number_at number (y ∷ ys) (suc i) x h e = number_at number ys i x (omega arith) e
