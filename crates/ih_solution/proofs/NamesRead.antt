-- The ids of an instance read as the numbers of what they name.
use Rattle.std.proofs.Common.{◌≡◌, ℕ, zero, suc, ◌<◌, refl, arith, Bool, true, false, List, [], ◌∷◌, inl, inr, length, get_or, map, Some}
use Rattle.std.specs.Prelude.{◌≢◌, AllPairs, Ok, slice_get}
use Rattle.std.specs.Bool.{Decides}
use Rattle.std.specs.Option.{option_map_or}
use Rattle.std.proofs.lemmas.Bool.{le-leb}
use Rattle.std.proofs.lemmas.Option.{slice_get_cases}
use Rattle.std.proofs.lemmas.Slice.Eq.{bytes_eq-Decides}
use Rattle.serde_json.specs.Data.{string}
use Rattle.ih_tables.specs.declared.refusals.Place.{Place}
use Rattle.ih_tables.specs.Lookups.{number_in}
use Rattle.ih_tables.specs.Valid.{IsListed, IsName}
use Rattle.ih_format.specs.Checks.{between, reference}

found : (b : Bool) {P : Type 0} → Decides b P → P → b ≡ true
found b d p = d.1 p

not_found : (b : Bool) {P : Type 0} → Decides b P → (P → ⊥) → b ≡ false
not_found true d denied = absurd (denied (d.0 refl))
not_found false d denied = refl

-- the number of an item's name is the item's
number-of : {A : Type 0} (name : A → List ℕ) (xs : List A) (k : ℕ) (d : A) → AllPairs (λ x y. name x ≢ name y) xs → k < length xs → number_in (map name xs) (name (get_or xs k d)) ≡ Some k
unfolding number_in
number-of name [] k d distinct h = absurd (omega arith)
number-of name (x ∷ xs) zero d distinct h = rw (found _ (bytes_eq-Decides (name x) (name x)) refl) refl
number-of name (x ∷ xs) (suc k) d distinct h =
    let rest = number-of name xs k d (λ i j e l m. distinct (suc i) (suc j) e (omega arith) (omega arith)) (omega arith) in
    let differ : name x ≢ name (get_or xs k d) = distinct 0 (suc k) d (omega arith) (omega arith) in
    rw (not_found _ (bytes_eq-Decides (name x) (name (get_or xs k d))) differ, rest) refl

pub name-fits : (s : List ℕ) → IsName s → between 1 100 (length s) ≡ true
name-fits s h = rw (le-leb 1 (length s) h.least, le-leb (length s) 100 h.most) refl

-- an item's name reads as its number
pub name-reads : {A : Type 0} (low high : ℕ) (name : A → List ℕ) (xs : List A) (q : Place) (k : ℕ) → IsListed low high name xs → k < length xs
    → reference (number_in (map name xs)) q (string (option_map_or name (slice_get xs k) [])) ≡ Ok k
name-reads {A} low high name xs q k listed h = elim (slice_get_cases xs k).1 [
  | inl there ↦
      let x = there.0 in
      let is : get_or xs k x ≡ x = there.3 in
      let fits : IsName (name x) = rw is at (listed.named k x h) in
      let number : number_in (map name xs) (name x) ≡ Some k = rw is at (number-of name xs k x listed.distinct h) in
      rw (there.2, name-fits (name x) fits, number) refl
  | inr past ↦ absurd (omega (arith, past.0, h))
]
