-- The flags of pinned patients, one patient after the other.
use Rattle.std.proofs.Common.{◌≡◌, ◌∙◌, ℕ, zero, suc, ◌+◌, ◌-◌, ◌<◌, arith, false, refl, sym, ap, Bool, List, [], ◌∷◌, ◌++◌, map, take, Some}
use Rattle.std.specs.Prelude.{◌||◌, slice_get}
use Rattle.std.specs.Borrow.{Bor}
use Rattle.std.specs.List.{list_any, range_with_len}
use Rattle.std.specs.Str.{bytes_eq}
use Rattle.std.proofs.lemmas.List.{map-append, take_more}
use Rattle.std.proofs.lemmas.Option.{get_or_from_slice_get, slice_get_within}
use Rattle.ih_tables.specs.declared.drafts.Patient.{Patient}

-- the patient's id is one of these
abbrev pub flag : List (List ℕ) → Patient → Bool
flag ids a = list_any (bytes_eq a.id) ids

pub among-same : (id : List ℕ) (ids : List (Bor (List ℕ))) → list_any (λ s. bytes_eq id s.now) ids ≡ list_any (bytes_eq id) (map (λ s. s.now) ids)
among-same id [] = refl
among-same id (s ∷ ids) = ap (λ b. bytes_eq id s.now || b) (among-same id ids)

-- one flag more
pub flags-more : (ids : List (List ℕ)) (xs : List Patient) (i : ℕ) (a : Patient) (flags more : List Bool) (b : Bool) → slice_get xs i ≡ Some a
    → flags ≡ map (flag ids) (take i xs) → b ≡ flag ids a → more ≡ flags ++ b ∷ [] → more ≡ map (flag ids) (take (i + 1) xs)
flags-more ids xs i a flags more b here so_far is pushed =
    let last : take (i + 1) xs ≡ take i xs ++ a ∷ [] =
    take_more xs i a (slice_get_within xs i a here) ∙ ap (λ x. take i xs ++ x ∷ []) (get_or_from_slice_get xs i a a here) in
    pushed ∙ (ap (λ (fs : List Bool). fs ++ b ∷ []) so_far ∙ (ap (λ (c : Bool). map (flag ids) (take i xs) ++ c ∷ []) is
    ∙ (sym (map-append (flag ids) (take i xs) (a ∷ [])) ∙ ap (map (flag ids)) (sym last))))

-- a range whose first number fails
pub any-later : (f : ℕ → Bool) (d len : ℕ) → 0 < len → f d ≡ false → list_any f (range_with_len (d + 1) (len - 1)) ≡ list_any f (range_with_len d len)
any-later f d zero some off = absurd (omega (arith, some))
any-later f d (suc n) some off =
    let less : suc n - 1 ≡ n = omega arith in
    ap (λ (m : ℕ). list_any f (range_with_len (d + 1) m)) less ∙ ap (λ (b : Bool). b || list_any f (range_with_len (d + 1) n)) (sym off)
