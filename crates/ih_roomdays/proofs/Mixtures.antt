-- What persons cost together, from the summary of them.
use Rattle.std.proofs.Common.{◌≡◌, ℕ, ◌-◌, ◌*◌, ◌^◌, ◌<◌, refl, sym, ap, ◌∙◌, true, false, List, [], ◌∷◌, map, w64, inl, inr}
use Rattle.std.specs.Prelude.{◌==◌, not}
use Rattle.std.specs.Int.{leading_zeros, trailing_zeros}
use Rattle.std.proofs.lemmas.Bool.{cases_Bool, eq-eqb, eqb-true, ne_eqb}
use Rattle.std.proofs.lemmas.Slice.Eq.{bytes_eq-Decides}
use Rattle.ih_tables.specs.declared.drafts.Draft.{Draft}
use Rattle.ih_plan.specs.Persons.{person_of}
use Rattle.ih_plan.specs.Costs.{ages, age_spread, genders_differ}
use Rattle.ih_links.specs.Lists.{has}
use Rattle.ih_links.proofs.Members.{has-here, has-there}
use Rattle.ih_roomdays.specs.declared.occupancies.Occupancy.{Occupancy}
use Rattle.ih_roomdays.specs.declared.profiles.Profiles.{Profiles}
use Rattle.ih_roomdays.specs.Occupancy.{IsOccupancy}
use Rattle.ih_roomdays.specs.Profiles.{AreProfiles, ArePersons, age_number, gender_number}
use Rattle.ih_roomdays.proofs.Orders.{HaveOne, one-from, one-to}
use Rattle.ih_roomdays.proofs.Spans.{spread-none, spread-some}
use Rattle.ih_roomdays.proofs.SquareSums.{HaveOneNumber, squares-from, squares-to}

module _ (I : Draft) (p : Profiles) (xs : List ℕ) (profiles : AreProfiles I p) (known : ArePersons I xs) where
  -- ---- genders

  numbers-from : HaveOne I xs → HaveOneNumber (gender_number p) xs
  numbers-from one x y m n =
      eqb-true (gender_number p x) (gender_number p y) (profiles.genders.each x y (known x m) (known y n)
      ∙ (bytes_eq-Decides (person_of I x).gender (person_of I y).gender).1 (one x y m n))

  numbers-to : HaveOneNumber (gender_number p) xs → HaveOne I xs
  numbers-to one x y m n =
      (bytes_eq-Decides (person_of I x).gender (person_of I y).gender).0 (sym (profiles.genders.each x y (known x m) (known y n))
      ∙ eq-eqb (gender_number p x) (gender_number p y) (one x y m n))

  module _ (c : Occupancy) (is : IsOccupancy p xs c) where
    pub mixed-told : not (c.count * c.squares == c.genders * c.genders) ≡ genders_differ I xs
    mixed-told = rw (is.count, is.squares, is.genders) (elim (cases_Bool (genders_differ I xs)) [
      | inl mixed ↦ ap not (ne_eqb _ _ (λ e. let no : true ≡ false = sym mixed ∙ one-to I xs (numbers-to (squares-to (gender_number p) xs e)) in absurd (cc))) ∙ sym mixed
      | inr one ↦ ap not (eq-eqb _ _ (squares-from (gender_number p) xs (numbers-from (one-from I xs one)))) ∙ sym one
    ])

    -- ---- ages

    ages-are : (ys : List ℕ) → ((x : ℕ) → has x ys ≡ true → has x xs ≡ true) → map (age_number p) ys ≡ ages I ys
    ages-are [] inside = refl
    ages-are (y ∷ ys) inside =
        let here = profiles.ages.each y (known y (inside y (has-here y y ys refl))) in
        rw (here, ages-are ys (λ x there. inside x (has-there x y ys there))) refl

    module _ (fits : c.ages < 2 ^ 64) where
      told : map (age_number p) xs ≡ ages I xs
      told = ages-are xs (λ x there. there)

      pub spread-of_none : c.ages ≡ 0 → 0 ≡ age_spread I xs
      spread-of_none none = rw (← told) (spread-none (age_number p) xs c.ages fits profiles.in_range.ages is.ages none)

      pub spread-of_some : 0 < c.ages → 63 - leading_zeros w64 c.ages - trailing_zeros w64 c.ages ≡ age_spread I xs
      spread-of_some some = rw (← told) (spread-some (age_number p) xs c.ages fits profiles.in_range.ages is.ages some)
