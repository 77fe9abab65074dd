-- What a line says of its change is so.
use Rattle.std.proofs.Common.{◌≡◌, ℕ, zero, suc, ◌<◌, refl, sym, ◌∙◌, ap, subst, arith, Bool, true, false, List, [], ◌∷◌, map}
use Rattle.std.specs.Prelude.{ℤ, pos, ◌+ℤ◌, ◌-ℤ◌, ◌<ℤ◌, ◌≤ℤ◌, cond, filter, Some, None, slice_get}
use Rattle.std.proofs.lemmas.Int.{ints}
use Rattle.std.proofs.lemmas.List.Elements.{filter_passes}
use Rattle.std.proofs.lemmas.Option.{get_or_from_slice_get, slice_get_within}
use Rattle.ih_tables.specs.declared.drafts.Draft.{Draft}
use Rattle.ih_tables.specs.Bills.{at, cost}
use Rattle.ih_tables.proofs.BillLemmas.{at-listed}
use Rattle.ih_plan.specs.declared.limits.TheConstants.{MAX_HARD}
use Rattle.ih_plan.specs.declared.moves.Write.{Write}
use Rattle.ih_plan.specs.BillOf.{bill_of}
use Rattle.ih_plan.specs.Timetable.{Timetable}
use Rattle.ih_plan.specs.Writes.{put}
use Rattle.ih_plan.proofs.TestLemmas.{below, not-below}
use Rattle.ih_fill.specs.declared.candidates.Candidate.{Candidate}
use Rattle.ih_fill.specs.declared.choices.Choice.{Choice}
use Rattle.ih_fill.specs.Candidates.{cheapest, least_of, valued}
use Rattle.ih_fill.specs.Choices.{all_choices}
use Rattle.ih_fill.specs.FirstLeast.{IsFirstLeastOf}
use Rattle.ih_fill.proofs.FirstLeast.{cheapest-first}
use Rattle.ih_replacements.specs.Replacements.{best_write, value_of}
use Rattle.ih_waiting.proofs.ChangedBills.{cost-more}
use Rattle.ih_mends.specs.Mends.{best_changes, breaches, change_by, lowers, mend}

-- ---- lists

least-first : (v : Write → ℤ) (ws : List Write) (c : Candidate) → least_of v ws ≡ Some c → IsFirstLeastOf v ws c.write
least-first v [] c e = absurd (let no : None ≡ Some c = e in cc)
least-first v (x ∷ xs) c e =
    let same : valued v (cheapest v x xs) ≡ c = (let h : Some (valued v (cheapest v x xs)) ≡ Some c = e in cc) in
    subst (λ (d : Candidate). IsFirstLeastOf v (x ∷ xs) d.write) same (cheapest-first v x xs)

none-least : (v : Write → ℤ) (ws : List Write) → least_of v ws ≡ None → ws ≡ []
none-least v [] e = refl
none-least v (x ∷ xs) e = absurd (let no : Some (valued v (cheapest v x xs)) ≡ None = e in cc)

-- where none passes, each fails
none-passes : (q : Write → Bool) (f : Choice → Write) (cs : List Choice) (i : ℕ) (c : Choice) → filter q (map f cs) ≡ [] → slice_get cs i ≡ Some c → q (f c) ≡ false
none-passes q f [] i c e there = absurd (let no : None ≡ Some c = there in cc)
none-passes q f (x ∷ xs) i c e there = by_case (q (f x)) refl i there e (λ rest j later. none-passes q f xs j c rest later)
  where
    by_case : (b : Bool) → q (f x) ≡ b → (i : ℕ) → slice_get (x ∷ xs) i ≡ Some c → cond b (f x ∷ filter q (map f xs)) (filter q (map f xs)) ≡ []
        → (filter q (map f xs) ≡ [] → (j : ℕ) → slice_get xs j ≡ Some c → q (f c) ≡ false) → q (f c) ≡ false
    by_case true is i there e later = absurd (let clash : f x ∷ filter q (map f xs) ≡ [] = e in cc)
    by_case false is zero there e later =
        let same : x ≡ c = (let h : Some x ≡ Some c = there in cc) in
        ap (λ y. q (f y)) (sym same) ∙ is
    by_case false is (suc j) there e later = later e j there

-- ---- the mend

pub mend-least : (I : Draft) (P : Timetable) (k : ℕ) (c : Candidate) → mend I P k ≡ Some c
    → IsFirstLeastOf (value_of I MAX_HARD P) (filter (lowers I P k) (best_changes I P)) c.write
unfolding mend
mend-least I P k c e = least-first (value_of I MAX_HARD P) (filter (lowers I P k) (best_changes I P)) c e

less-than : (x y z : ℤ) → z ≡ x -ℤ y → z <ℤ pos 0 → x <ℤ y
less-than x y z e h = omega (arith, ints)

pub mend-lower : (I : Draft) (P : Timetable) (k : ℕ) (c : Candidate) → k < 9 → mend I P k ≡ Some c → at (bill_of I (put c.write P)).v k <ℤ breaches I P k
mend-lower I P k c inside e =
    let first = mend-least I P k c e in
    let ws = filter (lowers I P k) (best_changes I P) in
    let there = first.1.there in
    let same = get_or_from_slice_get ws first.0 c.write c.write there in
    let passes : lowers I P k c.write ≡ true =
    subst (λ w. lowers I P k w ≡ true) same (filter_passes (lowers I P k) (best_changes I P) first.0 c.write (slice_get_within ws first.0 c.write there)) in
    let new = bill_of I (put c.write P) in
    let old = bill_of I P in
    less-than (at new.v k) (at old.v k) (at (change_by I P c.write).v k) (at-listed 9 (λ j. at new.v j -ℤ at old.v j) k inside)
    (below (at (change_by I P c.write).v k) (pos 0) passes)

pub mend-priced : (I : Draft) (P : Timetable) (c : Candidate)
    → cost I.weights (bill_of I (put c.write P)) ≡ cost I.weights (bill_of I P) +ℤ cost I.weights (change_by I P c.write)
mend-priced I P c = cost-more I.weights (bill_of I (put c.write P)) (bill_of I P)

pub mend-none : (I : Draft) (P : Timetable) (k i : ℕ) (c : Choice) → mend I P k ≡ None → slice_get (all_choices I) i ≡ Some c
    → pos 0 ≤ℤ at (change_by I P (best_write I MAX_HARD P c)).v k
unfolding mend
mend-none I P k i c e there =
    not-below (at (change_by I P (best_write I MAX_HARD P c)).v k) (pos 0)
    (none-passes (lowers I P k) (best_write I MAX_HARD P) (all_choices I) i c
    (none-least (value_of I MAX_HARD P) (filter (lowers I P k) (best_changes I P)) e) there)
