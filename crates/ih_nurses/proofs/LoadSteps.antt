-- What adding to one load makes of the table of loads.
use Rattle.std.proofs.Common.{◌≡◌, ℕ, ◌+◌, ◌*◌, ◌<◌, refl, arith, sym, ap, ◌∙◌, inl, inr, List, length, Some}
use Rattle.std.specs.Prelude.{slice_index_or, slice_set}
use Rattle.std.proofs.lemmas.Bool.{cases_eq, eq-eqb, ne_eqb}
use Rattle.std.proofs.lemmas.Nat.{same_from_place}
use Rattle.std.proofs.lemmas.List.{get_or-set_other}
use Rattle.std.proofs.lemmas.Grind.{get_or-set_at}
use Rattle.ih_tables.specs.declared.drafts.Draft.{Draft}
use Rattle.ih_tables.specs.declared.ids.NurseNo.{NurseNo}
use Rattle.ih_tables.specs.Sizes.{nurse_count, shift_count}
use Rattle.ih_nurses.specs.declared.loads.NurseLoad.{NurseLoad}
use Rattle.ih_nurses.specs.Loads.{IsTable, load_at, share}
use Rattle.ih_tables.proofs.LoadLemmas.{load_inside}

-- the load of nurse n and shift k is replaced
module _ (I : Draft) (loads : List NurseLoad) (n : NurseNo) (k place : ℕ) (old : NurseLoad) (table : IsTable I loads) (nurse : n.0 < nurse_count I) (shift : k < shift_count I)
    (place_is : place ≡ n.0 * shift_count I + k) (old_is : old ≡ slice_index_or loads place (record { work = 0; most = 0 })) where
  pub inside : place < length loads
  inside = let p = load_inside I n.0 k nurse shift in let len = table.len in omega (arith, p)

  pub read : load_at I loads n.0 k ≡ old.work
  read = ap (λ i. (slice_index_or loads i (record { work = 0; most = 0 })).work) (sym place_is) ∙ ap (λ (l : NurseLoad). l.work) (sym old_is)

  pub share-here : (load : ℕ) → share (Some n) k load n.0 k ≡ load
  share-here load = rw (eq-eqb k k refl, eq-eqb n.0 n.0 refl) refl

  here : (new : NurseLoad) → load_at I (slice_set loads place new) n.0 k ≡ new.work
  here new = ap (λ (l : NurseLoad). l.work) (get_or-set_at loads place (n.0 * shift_count I + k) new (record { work = 0; most = 0 }) (sym place_is) inside)

  share-there : (load m j : ℕ) → (m ≡ n.0 → j ≡ k → ⊥) → share (Some n) k load m j ≡ 0
  share-there load m j ne = elim (cases_eq j k) [
    | inl now ↦ rw (ne_eqb n.0 m (λ e. ne (sym e) now), eq-eqb j k now) refl
    | inr later ↦ rw (ne_eqb j k later) refl
  ]

  there : (new : NurseLoad) (m j : ℕ) → j < shift_count I → (m ≡ n.0 → j ≡ k → ⊥) → load_at I (slice_set loads place new) m j ≡ load_at I loads m j
  there new m j jh ne = ap (λ (l : NurseLoad). l.work) (get_or-set_other loads place (m * shift_count I + j) new (record { work = 0; most = 0 }) (λ e.
      let same = same_from_place m j n.0 k (shift_count I) jh shift (e ∙ place_is) in ne same.0 same.1))

  -- one case for the load itself, one for all others
  by_place : (C : ℕ → ℕ → Type 0) → C n.0 k → ((m j : ℕ) → (m ≡ n.0 → j ≡ k → ⊥) → C m j) → (m j : ℕ) → C m j
  by_place C same other m j = elim (cases_eq m n.0) [
    | inl nurse_same ↦ elim (cases_eq j k) [
      | inl now ↦ rw (nurse_same, now) same
      | inr later ↦ other m j (λ _ e. later e)
    ]
    | inr nurse_other ↦ other m j (λ e _. nurse_other e)
  ]

  pub added : (load : ℕ) (new : NurseLoad) → new.work ≡ old.work + load → (m j : ℕ) → m < nurse_count I → j < shift_count I
      → load_at I (slice_set loads place new) m j ≡ load_at I loads m j + share (Some n) k load m j
  added load new e = by_place (λ m j. m < nurse_count I → j < shift_count I → load_at I (slice_set loads place new) m j ≡ load_at I loads m j + share (Some n) k load m j)
      (λ mh jh. rw (here new, read, share-here load) e)
      (λ m j ne mh jh. rw (there new m j jh ne, share-there load m j ne) (omega arith))

  pub taken : (load : ℕ) (new : NurseLoad) → new.work + load ≡ old.work → (m j : ℕ) → m < nurse_count I → j < shift_count I
      → load_at I (slice_set loads place new) m j + share (Some n) k load m j ≡ load_at I loads m j
  taken load new e = by_place (λ m j. m < nurse_count I → j < shift_count I → load_at I (slice_set loads place new) m j + share (Some n) k load m j ≡ load_at I loads m j)
      (λ mh jh. rw (here new, read, share-here load) e)
      (λ m j ne mh jh. rw (there new m j jh ne, share-there load m j ne) (omega arith))
