-- The greatest and the least age group of the first persons of a list, with one person more.
use Rattle.std.proofs.Common.{◌≡◌, ℕ, ◌+◌, ◌<◌, refl, arith, ◌∙◌, true, false, Bool, List, [], ◌∷◌, ◌++◌, length, get_or, take}
use Rattle.std.specs.Prelude.{not, max}
use Rattle.std.proofs.lemmas.List.{take_more}
use Rattle.ih_tables.specs.declared.drafts.Draft.{Draft}
use Rattle.ih_plan.specs.Persons.{person_of}
use Rattle.ih_plan.specs.Costs.{ages, is_empty}
use Rattle.ih_plan.specs.Sums.{greatest, least, lower}

abbrev age_of : Draft → ℕ → ℕ
age_of I x = (person_of I x).age_group

filled : (xs : List ℕ) (y : ℕ) → is_empty (xs ++ y ∷ []) ≡ false
filled [] y = refl
filled (x ∷ xs) y = refl

oldest : (I : Draft) (xs : List ℕ) (y : ℕ) → greatest (ages I (xs ++ y ∷ [])) ≡ max (greatest (ages I xs)) (age_of I y)
unfolding greatest
oldest I [] y = omega arith
oldest I (x ∷ xs) y = omega (arith, oldest I xs y)

youngest : (I : Draft) (xs : List ℕ) (y : ℕ) → least (ages I (xs ++ y ∷ [])) ≡ lower (not (is_empty xs)) (least (ages I xs)) (age_of I y)
unfolding least
youngest I [] y = refl
youngest I (x ∷ []) y = refl
youngest I (x ∷ z ∷ zs) y = omega (arith, youngest I (z ∷ zs) y)

-- the ages of the first i persons
pub record AreAges (I : Draft) (xs : List ℕ) (i : ℕ) (found : Bool) (low high : ℕ) : Type 0 where
  pub is_found : found ≡ not (is_empty (take i xs))
  pub is_high : high ≡ greatest (ages I (take i xs))
  pub is_low : low ≡ least (ages I (take i xs))

pub are_ages-none : (I : Draft) (xs : List ℕ) → AreAges I xs 0 false 0 0
unfolding greatest least
are_ages-none I [] = record { is_found = refl; is_high = refl; is_low = refl }
are_ages-none I (x ∷ xs) = record { is_found = refl; is_high = refl; is_low = refl }

pub are_ages-more : {I : Draft} {xs : List ℕ} {i : ℕ} {found : Bool} {low high : ℕ} (age bottom top : ℕ) → AreAges I xs i found low high → i < length xs
    → age ≡ age_of I (get_or xs i 0) → bottom ≡ lower found low age → top ≡ max high age → AreAges I xs (i + 1) true bottom top
are_ages-more {I} {xs} {i} {found} {low} {high} age bottom top so_far h e lowered raised = record {
  is_found = rw (take_more xs i 0 h, filled (take i xs) (get_or xs i 0)) refl;
  is_high = raised ∙ rw (take_more xs i 0 h, oldest I (take i xs) (get_or xs i 0), so_far.is_high, e) refl;
  is_low = lowered ∙ rw (take_more xs i 0 h, youngest I (take i xs) (get_or xs i 0), so_far.is_found, so_far.is_low, e) refl;
}
