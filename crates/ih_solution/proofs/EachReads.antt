-- Lists whose items read, each as what it was written for.
use Rattle.std.proofs.Common.{◌≡◌, ℕ, zero, suc, ◌+◌, ◌<◌, ◌≤◌, refl, arith, sym, ap, ◌∙◌, Bool, true, false, List, [], ◌∷◌, ◌++◌, inl, inr, length, map, Some, append-nil}
use Rattle.std.specs.Prelude.{◌≢◌, ◌==◌, Ok, find}
use Rattle.std.specs.List.{range_with_len}
use Rattle.std.proofs.lemmas.Bool.{cases_eq, eq-eqb, ne_eqb, or_left, or_right}
use Rattle.std.proofs.lemmas.List.{append_assoc}
use Rattle.std.proofs.lemmas.List.Folds.{list_any_none}
use Rattle.std.proofs.lemmas.List.FromFn.{length-map-range_with_len, get_or-map-range_with_len, map-range_with_len_more}
use Rattle.serde_json.specs.Data.{Data}
use Rattle.ih_tables.specs.declared.refusals.Place.{Place}
use Rattle.ih_tables.specs.Places.{at_item}
use Rattle.ih_tables.specs.Listed.{listed}
use Rattle.ih_plan.proofs.ListedBelow.{has}
use Rattle.ih_format.specs.Checks.{Check, ◌>>=◌, each, each_after}
use Rattle.ih_format.specs.Flags.{is_among}

-- items for numbers, read without a look at those before them
pub each-map : {A : Type 0} (c : Check A) (f : ℕ → Data) (g : ℕ → A) (p : Place) (xs : List ℕ) (done : List A)
    → ((q : Place) (x : ℕ) → has x xs ≡ true → c q (f x) ≡ Ok (g x)) → each_after done (λ _. c) p (map f xs) ≡ Ok (done ++ map g xs)
unfolding each_after
each-map c f g p [] done h = ap Ok (sym (append-nil done))
each-map {A} c f g p (x ∷ xs) done h =
    ap (λ r. r >>= λ y. each_after (done ++ y ∷ []) (λ _. c) p (map f xs)) (h (at_item (length done) p) x (or_left (x == x) (has x xs) (eq-eqb x x refl)))
    ∙ each-map c f g p xs (done ++ g x ∷ []) (λ q y i. h q y (or_right (x == y) (has y xs) i))
    ∙ ap Ok (append_assoc done (g x ∷ []) (map g xs))

each-from : {A : Type 0} (c : List A → Check A) (f : ℕ → Data) (g : ℕ → A) (p : Place) (a n : ℕ)
    → ((i : ℕ) → i < a + n → c (listed i g) (at_item i p) (f i) ≡ Ok (g i)) → each_after (listed a g) c p (map f (range_with_len a n)) ≡ Ok (listed (a + n) g)
unfolding each_after
each-from c f g p a zero h = let same : a ≡ a + 0 = omega arith in ap (λ m. Ok (listed m g)) same
each-from {A} c f g p a (suc n) h =
    let here : c (listed a g) (at_item (length (listed a g)) p) (f a) ≡ Ok (g a) = rw (length-map-range_with_len g 0 a) (h a (omega arith)) in
    let more : listed a g ++ g a ∷ [] ≡ listed (a + 1) g = sym (map-range_with_len_more g 0 a a (omega arith)) in
    ap (λ r. r >>= λ y. each_after (listed a g ++ y ∷ []) c p (map f (range_with_len (a + 1) n))) here
    ∙ ap (λ (done : List A). each_after done c p (map f (range_with_len (a + 1) n))) more
    ∙ each-from c f g p (a + 1) n (λ i l. h i (omega arith))
    ∙ (let same : a + 1 + n ≡ a + suc n = omega arith in ap (λ m. Ok (listed m g)) same)

-- one item for each number, each of which may look at those before it
pub each-listed : {A : Type 0} (c : List A → Check A) (f : ℕ → Data) (g : ℕ → A) (p : Place) (n : ℕ)
    → ((i : ℕ) → i < n → c (listed i g) (at_item i p) (f i) ≡ Ok (g i)) → each c p (listed n f) ≡ Ok (listed n g)
each-listed c f g p n h = each-from c f g p 0 n (λ i l. h i (omega arith)) ∙ (let same : 0 + n ≡ n = omega arith in ap (λ m. Ok (listed m g)) same)

-- ---- looking into a list with one item for each number

pub among-listed : {A : Type 0} (number : A → ℕ) (g : ℕ → A) (n k : ℕ) → ((i : ℕ) → number (g i) ≡ i) → n ≤ k → is_among number (listed n g) k ≡ false
among-listed {A} number g n k h past = list_any_none (λ (x : A). number x == k) (listed n g) (λ i d l.
    let below : i < n = omega (arith, l, length-map-range_with_len g 0 n) in
    rw (get_or-map-range_with_len g 0 n i i d below (omega arith), h i) (ne_eqb i k (λ e. omega arith)))

find-from : {A : Type 0} (q : A → Bool) (g : ℕ → A) (a n k : ℕ) → a ≤ k → k < a + n → q (g k) ≡ true → ((i : ℕ) → i < a + n → i ≢ k → q (g i) ≡ false)
    → find q (map g (range_with_len a n)) ≡ Some (g k)
find-from q g a zero k low high passes others = absurd (omega arith)
find-from {A} q g a (suc n) k low high passes others = elim (cases_eq a k) [
  | inl same ↦ (let here : q (g a) ≡ true = rw same passes in rw here (ap (λ i. Some (g i)) same))
  | inr differ ↦ rw (others a (omega arith) differ) (find-from q g (a + 1) n k (omega (arith, low, differ)) (omega arith) passes (λ i l e. others i (omega arith) e))
]

-- the item that passes where no other does
pub find-listed : {A : Type 0} (q : A → Bool) (g : ℕ → A) (n k : ℕ) → k < n → q (g k) ≡ true → ((i : ℕ) → i < n → i ≢ k → q (g i) ≡ false) → find q (listed n g) ≡ Some (g k)
find-listed q g n k h passes others = find-from q g 0 n k (omega arith) (omega arith) passes (λ i l e. others i (omega arith) e)
