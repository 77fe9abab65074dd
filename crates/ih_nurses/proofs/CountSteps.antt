-- What counting a shift more or less makes of the table of counts.
use Rattle.std.proofs.Common.{◌≡◌, ℕ, ◌+◌, ◌*◌, ◌<◌, refl, arith, sym, ap, ◌∙◌, inl, inr, List, length, Some, mul_comm}
use Rattle.std.specs.Prelude.{slice_index_or, slice_set}
use Rattle.std.proofs.lemmas.Bool.{cases_eq, eq-eqb, ne_eqb}
use Rattle.std.proofs.lemmas.Nat.{same_from_place, mul-add-lt}
use Rattle.std.proofs.lemmas.List.{get_or-set_other}
use Rattle.std.proofs.lemmas.Grind.{get_or-set_at}
use Rattle.ih_tables.specs.declared.drafts.Draft.{Draft}
use Rattle.ih_tables.specs.declared.ids.NurseNo.{NurseNo}
use Rattle.ih_tables.specs.Sizes.{person_count, nurse_count}
use Rattle.ih_nurses.specs.Counts.{count_at, one_of}

pub count-inside : (I : Draft) (x n : ℕ) → x < person_count I → n < nurse_count I → x * nurse_count I + n < person_count I * nurse_count I
count-inside I x n xh nh = rw (mul_comm (person_count I) (nurse_count I)) (mul-add-lt x (nurse_count I) n (person_count I) xh nh)

-- the count of person x and nurse n is replaced
module _ (I : Draft) (counts : List ℕ) (x : ℕ) (n : NurseNo) (place : ℕ) (len : length counts ≡ person_count I * nurse_count I) (person : x < person_count I) (nurse : n.0 < nurse_count I)
    (place_is : place ≡ x * nurse_count I + n.0) where
  inside : place < length counts
  inside = let p = count-inside I x n.0 person nurse in omega (arith, p, len, place_is)

  pub read-count : count_at I counts x n.0 ≡ slice_index_or counts place 0
  read-count = ap (λ i. slice_index_or counts i 0) (sym place_is)

  pub one-here : one_of x (Some n) x n.0 ≡ 1
  one-here = rw (eq-eqb x x refl, eq-eqb n.0 n.0 refl) refl

  here : (new : ℕ) → count_at I (slice_set counts place new) x n.0 ≡ new
  here new = get_or-set_at counts place (x * nurse_count I + n.0) new 0 (sym place_is) inside

  one-there : (y m : ℕ) → (y ≡ x → m ≡ n.0 → ⊥) → one_of x (Some n) y m ≡ 0
  one-there y m ne = elim (cases_eq y x) [
    | inl same ↦ rw (eq-eqb x y (sym same), ne_eqb n.0 m (λ e. ne same (sym e))) refl
    | inr other ↦ rw (ne_eqb x y (λ e. other (sym e))) refl
  ]

  there : (new y m : ℕ) → m < nurse_count I → (y ≡ x → m ≡ n.0 → ⊥) → count_at I (slice_set counts place new) y m ≡ count_at I counts y m
  there new y m mh ne = get_or-set_other counts place (y * nurse_count I + m) new 0 (λ e.
      let same = same_from_place y m x n.0 (nurse_count I) mh nurse (e ∙ place_is) in ne same.0 same.1)

  -- one case for the count itself, one for all others
  by_place : (C : ℕ → ℕ → Type 0) → C x n.0 → ((y m : ℕ) → (y ≡ x → m ≡ n.0 → ⊥) → C y m) → (y m : ℕ) → C y m
  by_place C same other y m = elim (cases_eq y x) [
    | inl person_same ↦ elim (cases_eq m n.0) [
      | inl nurse_same ↦ rw (person_same, nurse_same) same
      | inr nurse_other ↦ other y m (λ _ e. nurse_other e)
    ]
    | inr person_other ↦ other y m (λ e _. person_other e)
  ]

  pub count-added : (new : ℕ) → new ≡ slice_index_or counts place 0 + 1 → (y m : ℕ) → m < nurse_count I
      → count_at I (slice_set counts place new) y m ≡ count_at I counts y m + one_of x (Some n) y m
  count-added new e = by_place (λ y m. m < nurse_count I → count_at I (slice_set counts place new) y m ≡ count_at I counts y m + one_of x (Some n) y m)
      (λ mh. rw (here new, read-count, one-here) e)
      (λ y m ne mh. rw (there new y m mh ne, one-there y m ne) (omega arith))

  pub count-taken : (new : ℕ) → new + 1 ≡ slice_index_or counts place 0 → (y m : ℕ) → m < nurse_count I
      → count_at I (slice_set counts place new) y m + one_of x (Some n) y m ≡ count_at I counts y m
  count-taken new e = by_place (λ y m. m < nurse_count I → count_at I (slice_set counts place new) y m + one_of x (Some n) y m ≡ count_at I counts y m)
      (λ mh. rw (here new, read-count, one-here) e)
      (λ y m ne mh. rw (there new y m mh ne, one-there y m ne) (omega arith))
