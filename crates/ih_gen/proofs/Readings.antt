-- What the reader of instance files makes of generated names, numbers and lists.
use Rattle.std.proofs.Common.{◌≡◌, ℕ, zero, suc, ◌+◌, ◌-◌, ◌^◌, ◌<◌, ◌≤◌, refl, ◌∙◌, ap, arith, inl, inr, Bool, true, false, List, [], ◌∷◌, length, map, take, Option, Some, None}
use Rattle.std.specs.Prelude.{◌≢◌, Ok, decimal}
use Rattle.std.specs.List.{range_with_len}
use Rattle.std.specs.Bool.{Decides}
use Rattle.std.specs.Str.{bytes_eq}
use Rattle.std.proofs.lemmas.Bool.{cases_eq, le-leb}
use Rattle.std.proofs.lemmas.Fmt.{decimal_injective, length-decimal-le}
use Rattle.std.proofs.lemmas.List.FromFn.{length-map-range_with_len, take-map-range_with_len}
use Rattle.std.proofs.lemmas.Slice.Eq.{bytes_eq-Decides}
use Rattle.serde_json.specs.Data.{Data, string}
use Rattle.ih_tables.specs.declared.refusals.Place.{Place}
use Rattle.ih_tables.specs.Lookups.{number_in}
use Rattle.ih_tables.specs.Places.{at_item}
use Rattle.ih_tables.specs.Listed.{listed}
use Rattle.ih_format.specs.Checks.{Check, between, number, new_name, reference, vector, named}
use Rattle.ih_format.proofs.Listing.{same_items}
use Rattle.ih_solution.specs.Solution.{number_data, list_data}
use Rattle.ih_solution.proofs.EachReads.{each-listed}
use Rattle.ih_gen.specs.Words.{pick}

-- ---- names

-- an id: a letter and a number
abbrev pub id : ℕ → ℕ → List ℕ
id letter n = letter ∷ decimal n

abbrev tail_of : List ℕ → List ℕ
tail_of [] = []
tail_of (x ∷ xs) = xs

ids-differ : (letter m n : ℕ) → m < 2 ^ 64 → n < 2 ^ 64 → m ≢ n → bytes_eq (id letter m) (id letter n) ≡ false
ids-differ letter m n small few differ = by_case (bytes_eq (id letter m) (id letter n)) (bytes_eq-Decides (id letter m) (id letter n))
  where
    by_case : (b : Bool) → Decides b (id letter m ≡ id letter n) → b ≡ false
    by_case false d = refl
    by_case true d = absurd (differ (decimal_injective m n small few (ap tail_of (d.0 refl))))

id-same : (letter n : ℕ) → bytes_eq (id letter n) (id letter n) ≡ true
id-same letter n = (bytes_eq-Decides (id letter n) (id letter n)).1 refl

-- an id that none of these is
none-from : (letter a n k : ℕ) → a + n < 2 ^ 64 → k < 2 ^ 64 → a + n ≤ k → number_in (map (id letter) (range_with_len a n)) (id letter k) ≡ None
unfolding number_in
none-from letter a zero k small few past = refl
none-from letter a (suc n) k small few past =
    rw (ids-differ letter a k (omega arith) few (λ e. omega arith), none-from letter (a + 1) n k (omega arith) few (omega arith)) refl

pub id-new : (letter n : ℕ) → n < 2 ^ 64 → number_in (listed n (id letter)) (id letter n) ≡ None
id-new letter n small = none-from letter 0 n n (omega arith) small (omega arith)

found-from : (letter a n k : ℕ) → a + n < 2 ^ 64 → a ≤ k → k < a + n → number_in (map (id letter) (range_with_len a n)) (id letter k) ≡ Some (k - a)
unfolding number_in
found-from letter a zero k small low high = absurd (omega arith)
found-from letter a (suc n) k small low high = elim (cases_eq a k) [
  | inl same ↦ (let none : 0 ≡ k - a = omega arith in rw (ap (λ i. bytes_eq (id letter i) (id letter k)) same ∙ id-same letter k) (ap Some none))
  | inr differ ↦
      let later : suc (k - (a + 1)) ≡ k - a = omega (arith, low, differ) in
      rw (ids-differ letter a k (omega arith) (omega arith) differ, found-from letter (a + 1) n k (omega arith) (omega (arith, low, differ)) (omega arith)) (ap Some later)
]

pub id-found : (letter n k : ℕ) → n < 2 ^ 64 → k < n → number_in (listed n (id letter)) (id letter k) ≡ Some k
id-found letter n k small below = found-from letter 0 n k (omega arith) (omega arith) (omega arith) ∙ (let same : k - 0 ≡ k = omega arith in ap Some same)

id-fits : (letter n : ℕ) → n < 2 ^ 32 → between 1 100 (length (id letter n)) ≡ true
id-fits letter n small =
    let short = length-decimal-le 20 n (omega arith) (omega arith) (omega arith) in
    rw (le-leb 1 (length (id letter n)) (omega arith), le-leb (length (id letter n)) 100 (omega (arith, short))) refl

pub new-id : (letter n : ℕ) (earlier : List ℕ → Option ℕ) (p : Place) → n < 2 ^ 32 → earlier (id letter n) ≡ None → new_name earlier p (string (id letter n)) ≡ Ok (id letter n)
new-id letter n earlier p small none = rw (id-fits letter n small, none) refl

pub known-id : (letter n k : ℕ) (numbers : List ℕ → Option ℕ) (p : Place) → n < 2 ^ 32 → numbers (id letter n) ≡ Some k → reference numbers p (string (id letter n)) ≡ Ok k
known-id letter n k numbers p small found = rw (id-fits letter n small, found) refl

-- ---- numbers

pub pick-below : (s : List ℕ) (i n : ℕ) → 0 < n → pick s i n < n
unfolding pick
pick-below s i n some = omega arith

pub number-reads : (low high n : ℕ) (p : Place) → low ≤ n → n ≤ high → number low high p (number_data n) ≡ Ok n
number-reads low high n p least most = rw (le-leb low n least, le-leb n high most) refl

-- a list of numbers that is long enough
pub vector-reads : (n m high : ℕ) (g : ℕ → ℕ) (p : Place) → n ≤ m → ((i : ℕ) → g i ≤ high) → vector n high p (list_data (listed m (λ i. number_data (g i)))) ≡ Ok (listed n g)
vector-reads n m high g p long small =
    let front : take n (listed m (λ i. number_data (g i))) ≡ listed n (λ i. number_data (g i)) = take-map-range_with_len (λ i. number_data (g i)) 0 m n long in
    let items = each-listed (λ (_ : List ℕ). number 0 high) (λ i. number_data (g i)) g p n (λ i below. number-reads 0 high (g i) (at_item i p) (omega arith) (small i)) in
    rw (same_items (listed m (λ i. number_data (g i))), length-map-range_with_len (λ i. number_data (g i)) 0 m, le-leb n m long, front) items

-- ---- lists of named things

pub names-of : {A : Type 0} (name : A → List ℕ) (g : ℕ → A) (letter : ℕ) (xs : List ℕ) → ((i : ℕ) → name (g i) ≡ id letter i) → map name (map g xs) ≡ map (id letter) xs
names-of name g letter [] h = refl
names-of name g letter (x ∷ xs) h = ap (λ s. s ∷ map name (map g xs)) (h x) ∙ ap (λ ys. id letter x ∷ ys) (names-of name g letter xs h)

pub named-reads : {A : Type 0} (low high : ℕ) (name : A → List ℕ) (row : (List ℕ → Option ℕ) → Check A) (letter n : ℕ) (f : ℕ → Data) (g : ℕ → A) (p : Place)
    → ((i : ℕ) → name (g i) ≡ id letter i) → low ≤ n → n ≤ high → n < 2 ^ 32
    → ((i : ℕ) (earlier : List ℕ → Option ℕ) (q : Place) → i < n → earlier (id letter i) ≡ None → row earlier q (f i) ≡ Ok (g i))
    → named low high name row p (list_data (listed n f)) ≡ Ok (listed n g)
named-reads low high name row letter n f g p ids least most small rows =
    let items = each-listed (λ done. row (number_in (map name done))) f g p n (λ i below.
    rows i (number_in (map name (listed i g))) (at_item i p) below
    (ap (λ names. number_in names (id letter i)) (names-of name g letter (range_with_len 0 i) ids) ∙ id-new letter i (omega arith))) in
    rw (same_items (listed n f), length-map-range_with_len f 0 n, le-leb low n least, le-leb n high most) items
