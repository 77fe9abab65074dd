-- The cheapest admission of a patient beside the others.
use Rattle.std.proofs.Common.{◌≡◌, ℕ, zero, suc, refl, sym, ◌∙◌, ap, subst, arith, List, [], ◌∷◌, ◌++◌}
use Rattle.std.specs.Prelude.{ℤ, pos, ◌+ℤ◌, ◌*ℤ◌, ◌≤ℤ◌, flat_map, Option, Some, None, option_and_then, slice_get}
use Rattle.std.specs.List.{range_with_len}
use Rattle.std.specs.Option.{option_map_or}
use Rattle.std.proofs.lemmas.Int.{ints}
use Rattle.std.proofs.Math.IntN.{suc_ℤ-*ℤ, zero-*ℤ}
use Rattle.ih_tables.specs.declared.drafts.Draft.{Draft}
use Rattle.ih_tables.specs.declared.drafts.Patient.{Patient}
use Rattle.ih_tables.specs.Bills.{at, cost, signed_sum}
use Rattle.ih_tables.specs.Sizes.{room_count, theatre_count}
use Rattle.ih_plan.specs.declared.limits.TheConstants.{MAX_HARD}
use Rattle.ih_plan.specs.declared.moves.Placement.{Placement}
use Rattle.ih_plan.specs.declared.moves.Write.{Write}
use Rattle.ih_plan.specs.Draws.{window_len}
use Rattle.ih_plan.specs.Timetable.{Timetable}
use Rattle.ih_fill.specs.declared.candidates.Candidate.{Candidate}
use Rattle.ih_fill.specs.Candidates.{cheapest, least_of, placed, rooms_for, stay_writes, stays_in, stays_on}
use Rattle.ih_fill.specs.FirstLeast.{IsFirstLeastOf}
use Rattle.ih_fill.proofs.FirstLeast.{before-at_most, cheapest-first}
use Rattle.ih_fill.proofs.ListLemmas.{listed-is}
use Rattle.ih_waiting.specs.Admissions.{admission_score, admit, change_by, cheapest_admission, place_in}

-- ---- each stay that a patient may get is an admission

-- all writes of a list admit patient p
abbrev AreAdmissions : ℕ → List Write → Type 0
AreAdmissions p ws = (k : ℕ) (w : Write) → slice_get ws k ≡ Some w → (place : Placement) × (w ≡ admit p place)

none-admits : (p : ℕ) → AreAdmissions p []
none-admits p k w e = absurd (let no : None ≡ Some w = e in cc)

both-admit : (p : ℕ) (xs ys : List Write) → AreAdmissions p xs → AreAdmissions p ys → AreAdmissions p (xs ++ ys)
both-admit p [] ys h g k w e = g k w e
both-admit p (x ∷ xs) ys h g zero w e = h 0 w e
both-admit p (x ∷ xs) ys h g (suc k) w e = both-admit p xs ys (λ j y f. h (suc j) y f) g k w e

all-admit : (p : ℕ) (f : ℕ → List Write) (ns : List ℕ) → ((n : ℕ) → AreAdmissions p (f n)) → AreAdmissions p (flat_map f ns)
all-admit p f [] h = none-admits p
all-admit p f (n ∷ ns) h = both-admit p (f n) (flat_map f ns) (h n) (all-admit p f ns h)

rooms-admit : (p d r n : ℕ) → AreAdmissions p (stays_in (record { 0 = p }) d r n)
rooms-admit p d r n k w e = (placed d r k, sym (listed-is (λ t. admit p (placed d r t)) n k w e).1)

of-patient : (I : Draft) (p : ℕ) (o : Option Patient)
    → AreAdmissions p (option_map_or (λ (a : Patient). flat_map (λ d. stays_on I (record { 0 = p }) a d (room_count I)) (range_with_len a.surgery_release_day (window_len I a))) o [])
of-patient I p None = none-admits p
of-patient I p (Some a) =
    all-admit p (λ d. stays_on I (record { 0 = p }) a d (room_count I)) (range_with_len a.surgery_release_day (window_len I a))
    (λ d. all-admit p (λ r. stays_in (record { 0 = p }) d r (theatre_count I)) (rooms_for a (room_count I)) (λ r. rooms-admit p d r (theatre_count I)))

pub stays-admit : (I : Draft) (p : ℕ) → AreAdmissions p (stay_writes I p)
stays-admit I p = of-patient I p (slice_get I.patients p)

-- ---- the cheapest of them

from-place : (p : ℕ) (w : Write) (other place : Placement) → w ≡ admit p other → place_in w ≡ Some place → w ≡ admit p place
from-place p w other place e f =
    let same : Some other ≡ Some place = sym (ap place_in e) ∙ f in
    let one : other ≡ place = cc in
    e ∙ ap (admit p) one

-- where the least of a list's writes puts the patient
abbrev place_of_least : (Write → ℤ) → List Write → Option Placement
place_of_least v ws = option_and_then (λ (c : Candidate). place_in c.write) (least_of v ws)

least-first : (p : ℕ) (v : Write → ℤ) (ws : List Write) (place : Placement) → AreAdmissions p ws → place_of_least v ws ≡ Some place
    → IsFirstLeastOf v ws (admit p place)
least-first p v [] place h e = absurd (let no : None ≡ Some place = e in cc)
least-first p v (x ∷ xs) place h e =
    let first = cheapest-first v x xs in
    let own = h first.0 (cheapest v x xs) first.1.there in
    subst (IsFirstLeastOf v (x ∷ xs)) (from-place p (cheapest v x xs) own.0 place own.1 e) first

none-listed : (p : ℕ) (v : Write → ℤ) (ws : List Write) → AreAdmissions p ws → place_of_least v ws ≡ None → ws ≡ []
none-listed p v [] h e = refl
none-listed p v (x ∷ xs) h e =
    let first = cheapest-first v x xs in
    let own = h first.0 (cheapest v x xs) first.1.there in
    absurd (let no : Some own.0 ≡ None = sym (ap place_in own.1) ∙ e in cc)

pub cheapest-least : (I : Draft) (P : Timetable) (p : ℕ) (place : Placement) → cheapest_admission I P p ≡ Some place
    → IsFirstLeastOf (admission_score I P) (stay_writes I p) (admit p place)
unfolding cheapest_admission
cheapest-least I P p place e = least-first p (admission_score I P) (stay_writes I p) place (stays-admit I p) e

pub no-admission : (I : Draft) (P : Timetable) (p : ℕ) → cheapest_admission I P p ≡ None → stay_writes I p ≡ []
unfolding cheapest_admission
no-admission I P p e = none-listed p (admission_score I P) (stay_writes I p) (stays-admit I p) e

-- ---- its cost

times-more : (n : ℕ) (x y : ℤ) → x ≤ℤ y → (pos n *ℤ x) ≤ℤ (pos n *ℤ y)
times-more zero x y h = rw (zero-*ℤ x, zero-*ℤ y) (omega (arith, ints))
times-more (suc n) x y h =
    let rest = times-more n x y h in
    rw (suc_ℤ-*ℤ (pos n) x, suc_ℤ-*ℤ (pos n) y) (omega (arith, ints))

dearer : (a b c d : ℤ) → (a +ℤ c) ≤ℤ (b +ℤ d) → b ≤ℤ a → c ≤ℤ d
dearer a b c d h e = omega (arith, ints)

cost-of-score : (n : ℕ) (a b c d : ℤ) → ((pos n *ℤ a) +ℤ c) ≤ℤ ((pos n *ℤ b) +ℤ d) → b ≤ℤ a → c ≤ℤ d
cost-of-score n a b c d h e = dearer (pos n *ℤ a) (pos n *ℤ b) c d h (times-more n b a e)

pub cheapest-cost : (I : Draft) (P : Timetable) (p k : ℕ) (place other : Placement) → cheapest_admission I P p ≡ Some place
    → slice_get (stay_writes I p) k ≡ Some (admit p other)
    → signed_sum 9 (at (change_by I P p other).v) ≤ℤ signed_sum 9 (at (change_by I P p place).v)
    → cost I.weights (change_by I P p place) ≤ℤ cost I.weights (change_by I P p other)
unfolding change_by
cheapest-cost I P p k place other e there few =
    let v = admission_score I P in
    let first = cheapest-least I P p place e in
    cost-of-score MAX_HARD (signed_sum 9 (at (change_by I P p place).v)) (signed_sum 9 (at (change_by I P p other).v))
    (cost I.weights (change_by I P p place)) (cost I.weights (change_by I P p other))
    (before-at_most (v (admit p place)) (v (admit p other)) first.0 k (first.1.first k (admit p other) tt there)) few
