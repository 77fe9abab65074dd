-- What one person more, or one less, makes of the summary of persons.
use Rattle.std.proofs.Common.{◌≡◌, ℕ, ◌+◌, ◌-◌, ◌*◌, ◌%◌, ◌^◌, ◌<◌, ◌≤◌, refl, arith, sym, ap, subst, ◌∙◌, true, List, [], ◌∷◌, ◌++◌, length, length-append, min, w64, bit_and, bit_or, inl, inr}
use Rattle.std.specs.Prelude.{◌==◌}
use Rattle.std.specs.Int.{bit_at, bit_not}
use Rattle.std.proofs.Math.Bool.{cond}
use Rattle.std.proofs.lemmas.Bool.{cases_eq, eq-eqb, ne_eqb}
use Rattle.std.proofs.lemmas.List.Sums.{sum_by_push, sum_by-le}
use Rattle.std.proofs.lemmas.Nat.{one_shl, mul-le}
use Rattle.std.proofs.lemmas.Nat.Bits.{bit_at_and, bit_at_or, bit_at_not, bit_at-zero, bit_at-pow_same, bit_at-pow_other, bit_at_set_same, bit_at_set_other}
use Rattle.ih_links.specs.Lists.{IsOnce, has, without}
use Rattle.ih_links.proofs.Members.{length-without}
use Rattle.ih_links.proofs.Without.{sum-without}
use Rattle.ih_roomdays.specs.declared.occupancies.Occupancy.{Occupancy}
use Rattle.ih_roomdays.specs.declared.occupancies.Crowd.{Crowd}
use Rattle.ih_roomdays.specs.declared.profiles.Profiles.{Profiles}
use Rattle.ih_roomdays.specs.Occupancy.{IsOccupancy, IsCrowd, IsSmall, nobody, of_age}
use Rattle.ih_roomdays.specs.Profiles.{AreInRange, age_number, gender_number, most_persons}

pub crowd-none : (p : Profiles) → IsCrowd p [] nobody
crowd-none p = record {
  occupancy = record { count = refl; genders = refl; squares = refl; ages = λ a below. bit_at-zero a };
  twice = λ a below. bit_at-zero a;
}

-- ---- one more

-- the age group of one more has one more
of_age-more : (p : Profiles) (xs : List ℕ) (x : ℕ) → of_age p (age_number p x) (xs ++ x ∷ []) ≡ of_age p (age_number p x) xs + 1
of_age-more p xs x =
    sum_by_push (λ y. cond (age_number p y == age_number p x) 1 0) xs x ∙ rw (eq-eqb (age_number p x) (age_number p x) refl) refl

-- and each other one as many
of_age-other : (p : Profiles) (xs : List ℕ) (x a : ℕ) → (a ≡ age_number p x → ⊥) → of_age p a (xs ++ x ∷ []) ≡ of_age p a xs
of_age-other p xs x a ne =
    let more = sum_by_push (λ y. cond (age_number p y == a) 1 0) xs x in
    more ∙ rw (ne_eqb (age_number p x) a (λ e. ne (sym e))) (omega arith)

module _ (p : Profiles) (xs : List ℕ) (x age : ℕ) (age_is : age ≡ age_number p x) (below : age < 64) where
  abbrev shifted : ℕ
  shifted = 1 * 2 ^ age % 2 ^ 64

  more : (a : ℕ) → a ≡ age → of_age p a (xs ++ x ∷ []) ≡ of_age p a xs + 1
  more a own = subst (λ b. of_age p b (xs ++ x ∷ []) ≡ of_age p b xs + 1) (sym (own ∙ age_is)) (of_age-more p xs x)

  other : (a : ℕ) → (a ≡ age → ⊥) → of_age p a (xs ++ x ∷ []) ≡ of_age p a xs
  other a ne = of_age-other p xs x a (λ e. ne (e ∙ sym age_is))

  pub occupancy-more : (gender : ℕ) (c : Occupancy) → gender ≡ gender_number p x → IsOccupancy p xs c
      → IsOccupancy p (xs ++ x ∷ []) (record { ages = bit_or c.ages shifted; squares = c.squares + gender * gender; genders = c.genders + gender; count = c.count + 1 })
  occupancy-more gender c gender_is is = record {
    count = ap (λ n. n + 1) is.count ∙ sym (length-append xs (x ∷ []));
    genders = rw (is.genders, gender_is) (sym (sum_by_push (gender_number p) xs x));
    squares = rw (is.squares, gender_is) (sym (sum_by_push (λ y. gender_number p y * gender_number p y) xs x));
    ages = λ a small. elim (cases_eq a age) [
      | inl own ↦ omega (arith, subst (λ b. bit_at (bit_or c.ages shifted) b ≡ 1) (sym own) (bit_at_set_same w64 c.ages age below), more a own)
      | inr ne ↦ omega (arith, bit_at_set_other w64 c.ages age below a ne, is.ages a small, other a ne)
    ];
  }

  -- the bit is that of the age group alone
  own-bit : bit_at shifted age ≡ 1
  own-bit = rw (one_shl age 64 below) (bit_at-pow_same age)

  other-bit : (a : ℕ) → (a ≡ age → ⊥) → bit_at shifted a ≡ 0
  other-bit a ne = rw (one_shl age 64 below) (bit_at-pow_other age a ne)

  pub twice-more : (c : Crowd) → IsCrowd p xs c → (a : ℕ) → a < 64 → bit_at (bit_or c.twice (bit_and c.occupancy.ages shifted)) a ≡ min 1 (of_age p a (xs ++ x ∷ []) - 1)
  twice-more c is a small =
      let joined = bit_at_or c.twice (bit_and c.occupancy.ages shifted) a in
      let both = bit_at_and c.occupancy.ages shifted a in
      let one = is.occupancy.ages a small in
      let two = is.twice a small in
      elim (cases_eq a age) [
        | inl own ↦ omega (arith, joined, both, one, two, subst (λ b. bit_at shifted b ≡ 1) (sym own) own-bit, more a own)
        | inr ne ↦ omega (arith, joined, both, one, two, other-bit a ne, other a ne)
      ]

-- ---- one less

module _ (p : Profiles) (xs : List ℕ) (x : ℕ) (once : IsOnce xs) (there : has x xs ≡ true) (age : ℕ) (age_is : age ≡ age_number p x) (below : age < 64) where
  abbrev kept : ℕ
  kept = bit_not w64 (1 * 2 ^ age % 2 ^ 64)

  less : (a : ℕ) → a ≡ age → of_age p a (without x xs) + 1 ≡ of_age p a xs
  less a own = rw (eq-eqb (age_number p x) a (sym (own ∙ age_is))) at (sum-without (λ y. cond (age_number p y == a) 1 0) x xs once there)

  as_many : (a : ℕ) → (a ≡ age → ⊥) → of_age p a (without x xs) ≡ of_age p a xs
  as_many a ne =
      let whole = rw (ne_eqb (age_number p x) a (λ e. ne (sym e ∙ sym age_is))) at (sum-without (λ y. cond (age_number p y == a) 1 0) x xs once there) in
      omega arith

  shifted-small : 1 * 2 ^ age % 2 ^ 64 < 2 ^ 64
  shifted-small = omega arith

  pub occupancy-less : (gender : ℕ) (c : Crowd) → gender ≡ gender_number p x → IsCrowd p xs c
      → IsOccupancy p (without x xs) (record {
        ages = bit_and c.occupancy.ages (bit_or c.twice kept);
        squares = c.occupancy.squares - gender * gender;
        genders = c.occupancy.genders - gender;
        count = c.occupancy.count - 1;
      })
  occupancy-less gender c gender_is is = record {
    count = let e = is.occupancy.count in omega (arith, length-without x xs once there);
    genders = let e = is.occupancy.genders in rw gender_is (omega (arith, sum-without (gender_number p) x xs once there));
    squares = let e = is.occupancy.squares in rw gender_is (omega (arith, sum-without (λ y. gender_number p y * gender_number p y) x xs once there));
    ages = λ a small.
        let both = bit_at_and c.occupancy.ages (bit_or c.twice kept) a in
        let either = bit_at_or c.twice kept a in
        let turned = bit_at_not w64 (1 * 2 ^ age % 2 ^ 64) a shifted-small small in
        let one = is.occupancy.ages a small in
        let two = is.twice a small in
        elim (cases_eq a age) [
          | inl own ↦ omega (arith, both, either, turned, one, two, subst (λ b. bit_at (1 * 2 ^ age % 2 ^ 64) b ≡ 1) (sym own) (own-bit p xs x age age_is below), less a own)
          | inr ne ↦ omega (arith, both, either, turned, one, two, other-bit p xs x age age_is below a ne, as_many a ne)
        ];
  }

-- one of them has a part in the sums
pub some-there : (p : Profiles) (xs : List ℕ) (x : ℕ) → IsOnce xs → has x xs ≡ true → (gender : ℕ) (c : Occupancy) → gender ≡ gender_number p x → IsOccupancy p xs c
    → (gender ≤ c.genders) × (gender * gender ≤ c.squares)
some-there p xs x once there gender c gender_is is =
    let genders = is.genders in
    let squares = is.squares in (
      rw gender_is (omega (arith, sum-without (gender_number p) x xs once there)),
      rw gender_is (omega (arith, sum-without (λ y. gender_number p y * gender_number p y) x xs once there)),
    )

-- ---- few persons have small sums

pub occupancy-small : (n : ℕ) (p : Profiles) (xs : List ℕ) (c : Occupancy) → AreInRange n p → IsOccupancy p xs c → length xs ≤ most_persons → IsSmall c
occupancy-small n p xs c range is few =
    let count = is.count in
    let each : (x : ℕ) → gender_number p x ≤ most_persons = λ x. let below = range.genders x in omega arith in
    let sum = sum_by-le (gender_number p) most_persons xs (λ i d inside. each _) in
    let squares = sum_by-le (λ x. gender_number p x * gender_number p x) (most_persons * most_persons) xs (λ i d inside. mul-le _ _ most_persons most_persons (each _) (each _)) in
    record {
      count = omega arith;
      genders = rw is.genders (omega (arith, sum, mul-le (length xs) most_persons most_persons most_persons few (omega arith)));
      squares = rw is.squares (omega (arith, squares, mul-le (length xs) (most_persons * most_persons) most_persons (most_persons * most_persons) few (omega arith)));
    }
