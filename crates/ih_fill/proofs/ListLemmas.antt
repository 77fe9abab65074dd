-- Candidates in their order: by day, then room, then theatre.
use Rattle.std.proofs.Common.{◌≡◌, ℕ, zero, suc, ◌+◌, ◌<◌, refl, sym, ◌∙◌, ap, arith, inl, inr, Bool, true, false, List, [], ◌∷◌, ◌++◌, length, map, append_assoc}
use Rattle.std.specs.Prelude.{filter, flat_map, cond, Some, None, ◌⊎◌, slice_get, if◌then◌else◌}
use Rattle.std.specs.List.{range_with_len}
use Rattle.std.proofs.Math.Nat.{zero-add}
use Rattle.std.proofs.lemmas.Grind.{flat_map-append}
use Rattle.std.proofs.lemmas.List.{map-append, append-nil, map-id}
use Rattle.std.proofs.lemmas.List.Elements.{filter-append}
use Rattle.std.proofs.lemmas.List.FromFn.{filter_of_map_range_with_len_more, length-map-range_with_len, map-range_with_len_more}
use Rattle.std.proofs.lemmas.Option.{slice_get_within}
use Rattle.ih_tables.specs.declared.drafts.Draft.{Draft}
use Rattle.ih_tables.specs.declared.drafts.Patient.{Patient}
use Rattle.ih_tables.specs.declared.ids.PatientNo.{PatientNo}
use Rattle.ih_tables.specs.declared.ids.NurseNo.{NurseNo}
use Rattle.ih_tables.specs.Sizes.{room_count}
use Rattle.ih_tables.specs.Works.{first_nurses}
use Rattle.ih_plan.specs.declared.moves.Write.{Write}
use Rattle.ih_plan.specs.Sums.{which_below}
use Rattle.ih_plan.proofs.SumLemmas.{which_below-more}
use Rattle.ih_plan.specs.Draws.{window_len}
use Rattle.ih_fill.specs.Candidates.{stay_writes, stays_on, rooms_for, suits}

pub range-more : (a n j : ℕ) → a + n ≡ j → range_with_len a (n + 1) ≡ range_with_len a n ++ j ∷ []
range-more a n j e = sym (map-id (range_with_len a (n + 1))) ∙ (map-range_with_len_more (λ (i : ℕ). i) a n j e ∙ ap (λ (xs : List ℕ). xs ++ j ∷ []) (map-id (range_with_len a n)))

pub rooms-more : (a : Patient) (r : ℕ) → rooms_for a (r + 1) ≡ rooms_for a r ++ cond (suits a r) (r ∷ []) []
rooms-more a r = ap (filter (suits a)) (range-more 0 r r (omega arith)) ∙ filter-append (suits a) (range_with_len 0 r) (r ∷ [])

-- a list behind another, with one more
pub listed-more : {A : Type 0} (xs : List A) (f : ℕ → A) (n : ℕ) → (xs ++ map f (range_with_len 0 n)) ++ f n ∷ [] ≡ xs ++ map f (range_with_len 0 (n + 1))
listed-more xs f n = append_assoc xs (map f (range_with_len 0 n)) (f n ∷ []) ∙ ap (λ ys. xs ++ ys) (sym (map-range_with_len_more f 0 n n (omega arith)))

-- what a push makes of such a list
pub push-more : {A : Type 0} (old before after : List A) (f : ℕ → A) (n : ℕ) → before ≡ old ++ map f (range_with_len 0 n) → after ≡ before ++ f n ∷ []
    → after ≡ old ++ map f (range_with_len 0 (n + 1))
push-more old before after f n so_far pushed = pushed ∙ (ap (λ xs. xs ++ f n ∷ []) so_far ∙ listed-more old f n)

-- the stays on a day, with one room more
pub on-more : (f : ℕ → List Write) (a : Patient) (r : ℕ) → suits a r ≡ true → flat_map f (rooms_for a (r + 1)) ≡ flat_map f (rooms_for a r) ++ f r
on-more f a r e = ap (flat_map f) (rooms-more a r ∙ ap (λ b. rooms_for a r ++ cond b (r ∷ []) []) e)
    ∙ (flat_map-append f (rooms_for a r) (r ∷ []) ∙ ap (λ ws. flat_map f (rooms_for a r) ++ ws) (append-nil (f r)))

pub on-same : (f : ℕ → List Write) (a : Patient) (r : ℕ) → suits a r ≡ false → flat_map f (rooms_for a (r + 1)) ≡ flat_map f (rooms_for a r)
on-same f a r e = ap (flat_map f) (rooms-more a r ∙ (ap (λ b. rooms_for a r ++ cond b (r ∷ []) []) e ∙ append-nil (rooms_for a r)))

-- the numbers below n that pass, and n, which passes or doesn't
pub which-more : {A : Type 0} (f : ℕ → A) (n : ℕ) (q : ℕ → Bool) → q n ≡ true → map f (which_below (n + 1) q) ≡ map f (which_below n q) ++ f n ∷ []
which-more f n q e = ap (map f) (which_below-more n q ∙ ap (λ (b : Bool). if b then which_below n q ++ n ∷ [] else which_below n q) e) ∙ map-append f (which_below n q) (n ∷ [])

pub which-same : {A : Type 0} (f : ℕ → A) (n : ℕ) (q : ℕ → Bool) → q n ≡ false → map f (which_below (n + 1) q) ≡ map f (which_below n q)
which-same f n q e = ap (map f) (which_below-more n q ∙ ap (λ (b : Bool). if b then which_below n q ++ n ∷ [] else which_below n q) e)

-- the first n nurses who pass, and nurse n, who passes or doesn't
pub nurse-more : {A : Type 0} (f : NurseNo → A) (n : ℕ) (q : NurseNo → Bool) → q (record { 0 = n }) ≡ true
    → map f (filter q (first_nurses (n + 1))) ≡ map f (filter q (first_nurses n)) ++ f (record { 0 = n }) ∷ []
nurse-more f n q e =
    ap (map f) (filter_of_map_range_with_len_more q (λ i. record { 0 = i }) 0 n n (zero-add n)
    ∙ ap (λ (b : Bool). filter q (first_nurses n) ++ cond b (record { 0 = n } ∷ []) []) e)
    ∙ map-append f (filter q (first_nurses n)) (record { 0 = n } ∷ [])

pub nurse-same : {A : Type 0} (f : NurseNo → A) (n : ℕ) (q : NurseNo → Bool) → q (record { 0 = n }) ≡ false
    → map f (filter q (first_nurses (n + 1))) ≡ map f (filter q (first_nurses n))
nurse-same f n q e =
    ap (map f) (filter_of_map_range_with_len_more q (λ i. record { 0 = i }) 0 n n (zero-add n)
    ∙ (ap (λ (b : Bool). filter q (first_nurses n) ++ cond b (record { 0 = n } ∷ []) []) e
    ∙ append-nil (filter q (first_nurses n))))

-- one list more
pub flat-more : {A : Type 0} (f : ℕ → List A) (a n j : ℕ) → a + n ≡ j → flat_map f (range_with_len a (n + 1)) ≡ flat_map f (range_with_len a n) ++ f j
flat-more f a n j e = ap (flat_map f) (range-more a n j e) ∙ (flat_map-append f (range_with_len a n) (j ∷ []) ∙ ap (λ ws. flat_map f (range_with_len a n) ++ ws) (append-nil (f j)))

-- The stays of a patient are those on each day of the window.
pub stays-are : (I : Draft) (p : PatientNo) (a : Patient) → slice_get I.patients p.0 ≡ Some a
    → flat_map (λ d. stays_on I p a d (room_count I)) (range_with_len a.surgery_release_day (window_len I a)) ≡ stay_writes I p.0
stays-are I p a e = rw e refl

-- ---- what is where in a list

pub get-front : {A : Type 0} (xs : List A) (y x : A) (k : ℕ) → slice_get xs k ≡ Some x → slice_get (xs ++ y ∷ []) k ≡ Some x
get-front [] y x k h = absurd (let no : None ≡ Some x = h in cc)
get-front (z ∷ xs) y x zero h = h
get-front (z ∷ xs) y x (suc k) h = get-front xs y x k h

pub get-behind : {A : Type 0} (xs : List A) (y x : A) (k : ℕ) → slice_get (xs ++ y ∷ []) k ≡ Some x → (slice_get xs k ≡ Some x) ⊎ ((k ≡ length xs) × (y ≡ x))
get-behind [] y x zero h = inr (refl, (let e : Some y ≡ Some x = h in cc))
get-behind [] y x (suc k) h = absurd (let no : None ≡ Some x = h in cc)
get-behind (z ∷ xs) y x zero h = inl h
get-behind (z ∷ xs) y x (suc k) h = elim (get-behind xs y x k h) [
  | inl there ↦ inl there
  | inr end ↦ let last = end.0 in inr (omega arith, end.1)
]

pub get-listed : {A : Type 0} (f : ℕ → A) (a n k j : ℕ) → k < n → a + k ≡ j → slice_get (map f (range_with_len a n)) k ≡ Some (f j)
get-listed f a zero k j h e = absurd (omega arith)
get-listed f a (suc n) zero j h e = let same : a ≡ j = omega arith in ap (λ i. Some (f i)) same
get-listed f a (suc n) (suc k) j h e = get-listed f (a + 1) n k j (omega arith) (omega arith)

-- what is listed at a place is that of its number
pub listed-is : {A : Type 0} (f : ℕ → A) (n k : ℕ) (x : A) → slice_get (map f (range_with_len 0 n)) k ≡ Some x → (k < n) × (f k ≡ x)
listed-is f n k x h =
    let inside = slice_get_within (map f (range_with_len 0 n)) k x h in
    let len : length (map f (range_with_len 0 n)) ≡ n = length-map-range_with_len f 0 n in
    let below : k < n = omega (arith, inside, len) in
    let both : Some (f k) ≡ Some x = sym (get-listed f 0 n k k below (omega arith)) ∙ h in
    (below, cc)
