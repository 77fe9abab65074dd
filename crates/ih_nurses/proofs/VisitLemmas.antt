-- A patient's lists, which have an entry for each shift of its stay.
use Rattle.std.proofs.Common.{◌≡◌, ℕ, ◌+◌, ◌-◌, ◌*◌, ◌/◌, ◌<◌, ◌≤◌, refl, arith, sym, true, false, inl, inr, List, length}
use Rattle.std.specs.Prelude.{if◌then◌else◌, nat_le, nat_lt, slice_index}
use Rattle.std.proofs.lemmas.Bool.{cases_lt, lt-ltb, le-ltb, le-leb, leb-true, ltb-true, and_parts, and_right}
use Rattle.std.proofs.lemmas.List.{get_or_past}
use Rattle.ih_tables.specs.declared.drafts.Draft.{Draft}
use Rattle.ih_tables.specs.Sizes.{shift_count}
use Rattle.ih_tables.specs.Valid.{IsValid, vector_len}
use Rattle.ih_plan.specs.Persons.{person_of}
use Rattle.ih_plan.specs.Presence.{covers, day_of}
use Rattle.ih_plan.proofs.Overtime.{of-person}

module _ (I : Draft) (p : ℕ) (valid : IsValid I) where
  pub workload-len : length (person_of I p).workload ≡ vector_len I (person_of I p).length_of_stay
  workload-len =
      of-person I (λ x. length x.workload ≡ vector_len I x.length_of_stay) p valid (omega arith) (λ a ok. ok.workload.len) (λ o ok. ok.workload.len)

  pub skill-len : length (person_of I p).skill ≡ vector_len I (person_of I p).length_of_stay
  skill-len = of-person I (λ x. length x.skill ≡ vector_len I x.length_of_stay) p valid (omega arith) (λ a ok. ok.skill.len) (λ o ok. ok.skill.len)

-- a list with an entry for each shift of a stay has one for a shift that counts
pub entry-inside : (I : Draft) (a stay k len : ℕ) → len ≡ vector_len I stay → covers a stay (day_of k) ≡ true → k < shift_count I → k - 3 * a < len
entry-inside I a stay k len e counted shift =
    let parts = and_parts (nat_le a (k / 3)) (nat_lt (k / 3) (a + stay)) counted in
    let low : a ≤ k / 3 = leb-true a (k / 3) parts.0 in
    let high : k / 3 < a + stay = ltb-true (k / 3) (a + stay) parts.1 in
    omega arith

-- and none for one past the stay
pub entry-counted : (I : Draft) (a stay k : ℕ) (list : List ℕ) → length list ≡ vector_len I stay → 3 * a ≤ k
    → (if covers a stay (day_of k) then slice_index list (k - 3 * a) else 0) ≡ slice_index list (k - 3 * a)
entry-counted I a stay k list len begun = elim (cases_lt (k / 3) (a + stay)) [
  | inl inside ↦ rw (le-leb a (k / 3) (omega arith), lt-ltb (k / 3) (a + stay) inside) refl
  | inr past ↦ rw (le-ltb (k / 3) (a + stay) past, and_right (nat_le a (k / 3)) false refl) (sym (get_or_past list (k - 3 * a) 0 (omega arith)))
]
