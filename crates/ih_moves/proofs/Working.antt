-- The nurses who work a shift, and the choice among them.
use Rattle.std.proofs.Common.{◌≡◌, ℕ, ◌<◌, ◌≤◌, refl, sym, ◌∙◌, arith, List, length, get_or, Option, Some, None}
use Rattle.std.specs.Prelude.{All, option_and_then, slice_get}
use Rattle.std.proofs.lemmas.List.Elements.{All-get_or, All-from_get_or, All-filter}
use Rattle.std.proofs.lemmas.List.Sums.{length-filter, count_by-le-length}
use Rattle.std.proofs.lemmas.List.FromFn.{get_or-map-range_with_len, length-map-range_with_len}
use Rattle.std.proofs.lemmas.Option.{slice_get-get_or}
use Rattle.ih_tables.specs.declared.drafts.Draft.{Draft}
use Rattle.ih_tables.specs.declared.ids.NurseNo.{NurseNo}
use Rattle.ih_tables.specs.Sizes.{nurse_count}
use Rattle.ih_tables.specs.Works.{first_nurses, is_working, working}
use Rattle.ih_plan.specs.Draws.{choose, choose_nurse}

pub working-few : (I : Draft) (k : ℕ) → length (working I k) ≤ nurse_count I
working-few I k =
    let nurses = first_nurses (nurse_count I) in
    omega (arith, length-filter (is_working I k) nurses, count_by-le-length (is_working I k) nurses, length-map-range_with_len {X = NurseNo} (λ i. record { 0 = i }) 0 (nurse_count I))

nurses-below : (n : ℕ) → All (λ (a : NurseNo). a.0 < n) (first_nurses n)
nurses-below n = All-from_get_or (λ (a : NurseNo). a.0 < n) (first_nurses n) (record { 0 = 0 }) (λ i h.
    let inside : i < n = rw length-map-range_with_len at h in
    rw (get_or-map-range_with_len {X = NurseNo} (λ i. record { 0 = i }) 0 n i i (record { 0 = 0 }) inside (omega arith)) inside)

pub working-below : (I : Draft) (k j : ℕ) (nurses : List NurseNo) (d : NurseNo) → nurses ≡ working I k → j < length nurses → (get_or nurses j d).0 < nurse_count I
working-below I k j nurses d listed h =
    All-get_or (λ (a : NurseNo). a.0 < nurse_count I) nurses j d h
    (rw listed (All-filter (is_working I k) (λ (a : NurseNo). a.0 < nurse_count I) (first_nurses (nurse_count I)) (nurses-below (nurse_count I))))

-- the choice among them
chosen : (I : Draft) (u k : ℕ) (nurses : List NurseNo) (o : Option ℕ) → nurses ≡ working I k → o ≡ choose u (length nurses)
    → option_and_then (slice_get nurses) o ≡ choose_nurse I u k
chosen I u k nurses o listed e = rw (e, listed) refl

pub nurse-chosen : (I : Draft) (u k j : ℕ) (nurses : List NurseNo) (d : NurseNo) → nurses ≡ working I k → Some j ≡ choose u (length nurses) → j < length nurses
    → Some (get_or nurses j d) ≡ choose_nurse I u k
nurse-chosen I u k j nurses d listed e h = sym (slice_get-get_or nurses j d h) ∙ chosen I u k nurses (Some j) listed e

pub none-chosen : (I : Draft) (u k : ℕ) (nurses : List NurseNo) → nurses ≡ working I k → None ≡ choose u (length nurses) → None ≡ choose_nurse I u k
none-chosen I u k nurses listed e = chosen I u k nurses None listed e
