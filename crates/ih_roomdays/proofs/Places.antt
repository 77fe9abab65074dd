-- The i-th of a list, by a walk from the first.
use Rattle.std.proofs.Common.{◌≡◌, ℕ, zero, suc, ◌+◌, ◌<◌, refl, arith, add-one, sym, ap, subst, ◌∙◌, true, List, [], ◌∷◌, length, drop, get_or, Some, None}
use Rattle.std.specs.Prelude.{slice_index}
use Rattle.ih_links.specs.Lists.{LinksState, has, following, first_of, list_of, IsOnce}
use Rattle.ih_links.specs.Days.{on_day}
use Rattle.ih_links.proofs.Members.{has-here, has-there}
use Rattle.ih_links.proofs.Walks.{following-index}
use Rattle.ih_roomdays.specs.declared.room_lists.RoomLists.{RoomLists}
use Rattle.ih_roomdays.specs.RoomLists.{AreRoomLists, persons_at}
use Rattle.ih_roomdays.proofs.People.{day-read}

-- what is met after k steps is the k-th
met : (xs : List ℕ) (k n : ℕ) → first_of (drop k xs) ≡ Some n → (k < length xs) × (n ≡ get_or xs k 0)
met [] zero n e = absurd (let no : None ≡ Some n = e in cc)
met [] (suc k) n e = absurd (let no : None ≡ Some n = e in cc)
met (x ∷ xs) zero n e = (omega arith, let some : Some x ≡ Some n = e in let same : n ≡ x = cc in same)
met (x ∷ xs) (suc k) n e = let rest = met xs k n e in (omega arith, rest.1)

pub met-inside : (xs : List ℕ) (k n : ℕ) → first_of (drop k xs) ≡ Some n → has n xs ≡ true
met-inside [] zero n e = absurd (let no : None ≡ Some n = e in cc)
met-inside [] (suc k) n e = absurd (let no : None ≡ Some n = e in cc)
met-inside (x ∷ xs) zero n e = has-here n x xs (let some : Some x ≡ Some n = e in let same : x ≡ n = cc in same)
met-inside (x ∷ xs) (suc k) n e = has-there n x xs (met-inside xs k n e)

-- something is met before the end
none-past : (xs : List ℕ) (k : ℕ) → k < length xs → first_of (drop k xs) ≡ None → ⊥
none-past [] k h e = absurd (omega arith)
none-past (x ∷ xs) zero h e = absurd (let no : Some x ≡ None = e in cc)
none-past (x ∷ xs) (suc k) h e = none-past xs k (omega arith) e

-- a step goes on to the next
pub step-on : (xs : List ℕ) (k n : ℕ) → IsOnce xs → first_of (drop k xs) ≡ Some n → following n xs ≡ first_of (drop (k + 1) xs)
step-on xs k n once e =
    let here = met xs k n e in
    rw add-one (ap (λ m. following m xs) here.1 ∙ following-index xs k once here.0)

pub step-past : (xs : List ℕ) (k : ℕ) → first_of (drop k xs) ≡ None → None ≡ first_of (drop (k + 1) xs)
step-past xs k e = rw add-one (past xs k e)
  where
    past : (xs : List ℕ) (k : ℕ) → first_of (drop k xs) ≡ None → None ≡ first_of (drop (suc k) xs)
    past [] k e = refl
    past (x ∷ xs) zero e = absurd (let no : Some x ≡ None = e in cc)
    past (x ∷ xs) (suc k) e = past xs k e

-- The lists that are read are those of day d, so the one that is met after i steps is the i-th of those who are there.
module _ (v w : RoomLists) (r d i : ℕ) (day : LinksState) (same : v ≡ w) (rows : AreRoomLists v) (below : d < w.days) (read : day ≡ get_or v.links.items d day) where
  day-is : day ≡ on_day w.links.items d
  day-is = day-read w d day (subst (λ u. AreRoomLists u) same rows) below (subst (λ (u : RoomLists). day ≡ get_or u.links.items d day) same read)

  pub told-person : (x : ℕ) → first_of (drop i (list_of day r)) ≡ Some x → x ≡ slice_index (persons_at w r d) i
  told-person x e = (met (list_of day r) i x e).1 ∙ ap (λ (l : LinksState). get_or (list_of l r) i 0) day-is

  pub told-someone : i < length (persons_at w r d) → first_of (drop i (list_of day r)) ≡ None → ⊥
  told-someone inside none = none-past (list_of day r) i (subst (λ (l : LinksState). i < length (list_of l r)) (sym day-is) inside) none
