-- What one more number makes of rows and of lists.
use Rattle.std.proofs.Common.{◌≡◌, ◌∙◌, ℕ, zero, suc, ◌+◌, refl, sym, ap, arith, add-one, Bool, true, false, List, [], ◌∷◌, ◌++◌, append_assoc, map, length}
use Rattle.std.specs.Prelude.{if◌then◌else◌, ◌==◌}
use Rattle.std.specs.List.{flat_map, join_by, range_with_len}
use Rattle.std.proofs.lemmas.List.{append-nil, map-append}
use Rattle.std.proofs.lemmas.Bool.{eq-eqb, ne_eqb}
use Rattle.csv.specs.Records.{Row, fields_of}
use Rattle.ih_plan.specs.Costs.{is_empty}
use Rattle.ih_plan.specs.Sums.{which_below}

-- ---- rows of all numbers

flat-more : {A : Type 0} (f : ℕ → List A) (a n : ℕ) → flat_map f (range_with_len a (suc n)) ≡ flat_map f (range_with_len a n) ++ f (a + n)
flat-more f a zero =
    let place : a ≡ a + 0 = omega arith in
    append-nil (f a) ∙ ap f place
flat-more f a (suc n) =
    let rest = flat-more f (a + 1) n in
    let place : (a + 1) + n ≡ a + suc n = omega arith in
    ap (λ (xs : List _). f a ++ xs) (rest ∙ ap (λ (i : ℕ). flat_map f (range_with_len (a + 1) n) ++ f i) place)
    ∙ sym (append_assoc (f a) (flat_map f (range_with_len (a + 1) n)) (f (a + suc n)))

pub rows-zero : {A : Type 0} (f : ℕ → List A) → flat_map f (range_with_len 0 0) ≡ []
rows-zero f = refl

pub rows-more : {A : Type 0} (f : ℕ → List A) (n : ℕ) → flat_map f (range_with_len 0 (n + 1)) ≡ flat_map f (range_with_len 0 n) ++ f n
rows-more f n =
    let place : 0 + n ≡ n = omega arith in
    rw add-one (flat-more f 0 n ∙ ap (λ (i : ℕ). flat_map f (range_with_len 0 n) ++ f i) place)

pub fields-more : (rows : List Row) (row : Row) → map fields_of (rows ++ row ∷ []) ≡ map fields_of rows ++ fields_of row ∷ []
fields-more rows row = map-append fields_of rows (row ∷ [])

-- ---- lists of those that pass

pub mapped-more : {A B : Type 0} (f : A → B) (xs : List A) (x : A) → map f (xs ++ x ∷ []) ≡ map f xs ++ f x ∷ []
mapped-more f xs x = map-append f xs (x ∷ [])

pub chosen-zero : {A : Type 0} (f : ℕ → A) (p : ℕ → Bool) → map f (which_below 0 p) ≡ []
unfolding which_below
chosen-zero f p = refl

pub chosen-more : {A : Type 0} (f : ℕ → A) (n : ℕ) (p : ℕ → Bool)
    → map f (which_below (n + 1) p) ≡ (if p n then map f (which_below n p) ++ f n ∷ [] else map f (which_below n p))
unfolding which_below
chosen-more f n p = rw add-one (by_case (p n))
  where
    by_case : (b : Bool) → map f (if b then which_below n p ++ n ∷ [] else which_below n p) ≡ (if b then map f (which_below n p) ++ f n ∷ [] else map f (which_below n p))
    by_case true = map-append f (which_below n p) (n ∷ [])
    by_case false = refl

pub ruleset chosen_steps = (mapped-more, chosen-zero, chosen-more)

-- ---- what loops over rows need

pub ruleset row_steps = (rows-zero, rows-more, fields-more, chosen-zero, chosen-more, append-nil, append_assoc)

-- ---- names

flat_map-mapped : {A B C : Type 0} (f : B → List C) (g : A → B) (xs : List A) → flat_map f (map g xs) ≡ flat_map (λ x. f (g x)) xs
flat_map-mapped f g [] = refl
flat_map-mapped f g (x ∷ xs) = ap (λ (ys : List _). f (g x) ++ ys) (flat_map-mapped f g xs)

-- names are joined as the things that have them
pub joined-names : {A : Type 0} (name : A → List ℕ) (sep : List ℕ) (xs : List A) → join_by (λ n. n) sep (map name xs) ≡ join_by name sep xs
joined-names name sep [] = refl
joined-names name sep (x ∷ xs) = ap (λ (ys : List ℕ). name x ++ ys) (flat_map-mapped (λ (n : List ℕ). sep ++ n) name xs)

pub ruleset joined_steps = joined-names

-- Names stand for numbers: there are none of the one exactly where there are none of the other.
pub empty-names : {A : Type 0} (name : A → List ℕ) (f : ℕ → List ℕ) (xs : List ℕ) (names : List A) (count : ℕ)
    → count ≡ length names → map name names ≡ map f xs → (count == 0) ≡ is_empty xs
empty-names name f [] [] count e h = eq-eqb count 0 e
empty-names name f [] (v ∷ vs) count e h = absurd (let no : name v ∷ map name vs ≡ [] = h in cc)
empty-names name f (x ∷ xs) [] count e h = absurd (let no : [] ≡ f x ∷ map f xs = h in cc)
empty-names name f (x ∷ xs) (v ∷ vs) count e h = ne_eqb count 0 (λ none. omega arith)
