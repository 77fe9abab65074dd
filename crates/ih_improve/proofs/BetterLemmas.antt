-- What the better of two timetables is.
use Rattle.std.proofs.Common.{◌≡◌, ℕ, suc, ◌*◌, ◌<◌, refl, sym, ap, ◌∙◌, subst, arith, Bool, true, false, inl, inr, List, [], ◌∷◌}
use Rattle.std.specs.Prelude.{◌⊎◌, ◌==◌, ◌<ℤ◌, ◌≤ℤ◌, ◌+ℤ◌, ℤ, pos, not, ◌&&◌, ◌||◌, nat_lt, if◌then◌else◌, int_lt, slice_get, Some}
use Rattle.std.proofs.lemmas.Bool.{lt-ltb, ltb-true, or_right}
use Rattle.std.proofs.lemmas.Int.{ints}
use Rattle.ih_tables.specs.declared.bills.Bill.{Bill}
use Rattle.ih_tables.specs.declared.bills.Weights.{Weights}
use Rattle.ih_tables.specs.declared.drafts.Draft.{Draft}
use Rattle.ih_tables.specs.Bills.{cost, feasible, score}
use Rattle.ih_plan.specs.Timetable.{Timetable}
use Rattle.ih_plan.specs.BillOf.{bill_of}
use Rattle.ih_changes.specs.Changes.{changes}
use Rattle.ih_changes.proofs.ChangeLemmas.{no-changes}
use Rattle.ih_improve.specs.Better.{best_of, better_of, counted_changes, is_better, is_better_than, is_less, of_bill, standing_of}
use Rattle.ih_improve.specs.Following.{IsNoDearer, IsNoWorse, MayFollow, MayStand, whole_cost}
use Rattle.ih_improve.specs.Terms.{Terms}
use Rattle.ih_improve.specs.declared.comparing.Standing.{Standing}

-- ---- which of two sums is less

abbrev Less : ℤ → ℕ → ℤ → ℕ → Type 0
Less s m u n = (s <ℤ u) ⊎ ((s ≤ℤ u) × (m < n))

-- the test of two sums with their points
abbrev test_less : ℤ → ℕ → ℤ → ℕ → Bool
test_less s m u n = int_lt s u || (not (int_lt u s) && nat_lt m n)

tells : (s u : ℤ) (m n : ℕ) → test_less s m u n ≡ true → Less s m u n
tells s u m n h = by_below (int_lt s u) refl h
  where
    by_above : (b : Bool) → int_lt u s ≡ b → (not b && nat_lt m n) ≡ true → Less s m u n
    by_above true above g = absurd (let no : false ≡ true = g in cc)
    by_above false above g = inr (omega (arith, ints, above), ltb-true m n g)

    by_below : (b : Bool) → int_lt s u ≡ b → (b || (not (int_lt u s) && nat_lt m n)) ≡ true → Less s m u n
    by_below true below g = inl (omega (arith, ints, below))
    by_below false below g = by_above (int_lt u s) refl g

told-below : (s u : ℤ) (m n : ℕ) → s <ℤ u → test_less s m u n ≡ true
told-below s u m n below = by_case (int_lt s u) refl
  where
    by_case : (b : Bool) → int_lt s u ≡ b → (b || (not (int_lt u s) && nat_lt m n)) ≡ true
    by_case true is = refl
    by_case false is = absurd (omega (arith, ints, is, below))

told-fewer : (s u : ℤ) (m n : ℕ) → s ≤ℤ u → m < n → test_less s m u n ≡ true
told-fewer s u m n most fewer = by_case (int_lt u s) refl
  where
    by_case : (b : Bool) → int_lt u s ≡ b → (int_lt s u || (not b && nat_lt m n)) ≡ true
    by_case true is = absurd (omega (arith, ints, is, most))
    by_case false is = or_right (int_lt s u) (nat_lt m n) (lt-ltb m n fewer)

told : (s u : ℤ) (m n : ℕ) → Less s m u n → test_less s m u n ≡ true
told s u m n (inl below) = told-below s u m n below
told s u m n (inr (most, fewer)) = told-fewer s u m n most fewer

sums-through : (s u v : ℤ) (m n l : ℕ) → Less s m u n → Less u n v l → Less s m v l
sums-through s u v m n l (inl a) (inl b) = inl (omega (arith, ints, a, b))
sums-through s u v m n l (inl a) (inr (b, k)) = inl (omega (arith, ints, a, b))
sums-through s u v m n l (inr (a, h)) (inl b) = inl (omega (arith, ints, a, b))
sums-through s u v m n l (inr (a, h)) (inr (b, k)) = inr (omega (arith, ints, a, b), omega (arith, h, k))

less-through : (x y z : ℤ) (m n l : ℕ) → is_less x m y n ≡ true → is_less y n z l ≡ true → is_less x m z l ≡ true
less-through x y z m n l h k =
    let s = x +ℤ pos m in
    let u = y +ℤ pos n in
    let v = z +ℤ pos l in
    told s v m l (sums-through s u v m n l (tells s u m n h) (tells u v n l k))

most-of : (s u : ℤ) (m n : ℕ) → Less s m u n → s ≤ℤ u
most-of s u m n (inl below) = omega (arith, ints, below)
most-of s u m n (inr (most, fewer)) = most

below-through : (x y z : ℤ) → int_lt x y ≡ true → int_lt y z ≡ true → int_lt x z ≡ true
below-through x y z h k = by_case (int_lt x z) refl
  where
    by_case : (b : Bool) → int_lt x z ≡ b → b ≡ true
    by_case true is = refl
    by_case false is = absurd (omega (arith, ints, is, h, k))

less-most : (x y : ℤ) (m n : ℕ) → is_less x m y n ≡ true → (x +ℤ pos m) ≤ℤ (y +ℤ pos n)
less-most x y m n h = most-of (x +ℤ pos m) (y +ℤ pos n) m n (tells (x +ℤ pos m) (y +ℤ pos n) m n h)

-- ---- the test that is made

-- of two bills of which this is known
abbrev test : Bool → Bool → Bool → Bool → Bool
test a b cheap low = if a then (if b then cheap else true) else (if b then false else low)

-- what it says where the second is feasible
picked : (a b cheap low : Bool) → test a b cheap low ≡ true → b ≡ true → (a ≡ true) × (cheap ≡ true)
picked true true cheap low h on = (refl, h)
picked false true cheap low h on = absurd (let no : false ≡ true = h in cc)
picked true false cheap low h on = absurd (let no : false ≡ true = on in cc)
picked false false cheap low h on = absurd (let no : false ≡ true = on in cc)

-- where the first of two feasible ones isn't better, it isn't cheaper
unpicked : (a b cheap low : Bool) → a ≡ true → b ≡ true → test a b cheap low ≡ false → cheap ≡ false
unpicked true true cheap low works fits h = h
unpicked false b cheap low works fits h = absurd (let no : false ≡ true = works in cc)
unpicked true false cheap low works fits h = absurd (let no : false ≡ true = fits in cc)

not-below : (s u : ℤ) (c : Bool) → (int_lt s u || c) ≡ false → u ≤ℤ s
not-below s u c h = by_case (int_lt s u) refl h
  where
    by_case : (b : Bool) → int_lt s u ≡ b → (b || c) ≡ false → u ≤ℤ s
    by_case true is fails = absurd (let clash : true ≡ false = fails in cc)
    by_case false is fails = omega (arith, ints, is)

not-less : (x y : ℤ) (m n : ℕ) → is_less x m y n ≡ false → (y +ℤ pos n) ≤ℤ (x +ℤ pos m)
not-less x y m n h = not-below (x +ℤ pos m) (y +ℤ pos n) _ h

test-through : (a b c cheap cheaper cheapest low lower lowest : Bool) → (cheap ≡ true → cheaper ≡ true → cheapest ≡ true)
    → (low ≡ true → lower ≡ true → lowest ≡ true) → test a b cheap low ≡ true → test b c cheaper lower ≡ true → test a c cheapest lowest ≡ true
test-through true true true cheap cheaper cheapest low lower lowest f g h k = f h k
test-through true true false cheap cheaper cheapest low lower lowest f g h k = refl
test-through true false true cheap cheaper cheapest low lower lowest f g h k = absurd (let no : false ≡ true = k in cc)
test-through true false false cheap cheaper cheapest low lower lowest f g h k = refl
test-through false true c cheap cheaper cheapest low lower lowest f g h k = absurd (let no : false ≡ true = h in cc)
test-through false false true cheap cheaper cheapest low lower lowest f g h k = absurd (let no : false ≡ true = k in cc)
test-through false false false cheap cheaper cheapest low lower lowest f g h k = g h k

pub better-through : (hard keep : ℕ) (w : Weights) (a b c : Standing) → is_better hard keep w a b ≡ true → is_better hard keep w b c ≡ true
    → is_better hard keep w a c ≡ true
better-through hard keep w a b c =
    test-through (feasible a.bill) (feasible b.bill) (feasible c.bill) _ _ _ _ _ _
    (less-through (cost w a.bill) (cost w b.bill) (cost w c.bill) (keep * a.changes) (keep * b.changes) (keep * c.changes))
    (below-through (score hard w a.bill) (score hard w b.bill) (score hard w c.bill))

-- what a better one is, where the other is feasible
better-facts : (hard keep : ℕ) (w : Weights) (a b : Standing) → is_better hard keep w a b ≡ true → feasible b.bill ≡ true
    → (feasible a.bill ≡ true) × ((cost w a.bill +ℤ pos (keep * a.changes)) ≤ℤ (cost w b.bill +ℤ pos (keep * b.changes)))
better-facts hard keep w a b on works =
    let facts = picked (feasible a.bill) (feasible b.bill) (is_less (cost w a.bill) (keep * a.changes) (cost w b.bill) (keep * b.changes))
    (int_lt (score hard w a.bill) (score hard w b.bill)) on works in
    (facts.0, less-most (cost w a.bill) (cost w b.bill) (keep * a.changes) (keep * b.changes) facts.1)

-- ---- no dearer

pub no_dearer-same : (I : Draft) (P : Timetable) → IsNoDearer I P P
no_dearer-same I P = record { works = λ h. h; cheap = λ h. omega (arith, ints) }

pub no_dearer-through : (I : Draft) (P Q R : Timetable) → IsNoDearer I P Q → IsNoDearer I Q R → IsNoDearer I P R
no_dearer-through I P Q R first second = record {
  works = λ h. second.works (first.works h);
  cheap = λ h. let low = first.cheap h in let lower = second.cheap (first.works h) in omega (arith, ints, low, lower);
}

-- where changes weigh nothing
pub cheaper-no_dearer : (I : Draft) (hard : ℕ) (P Q : Timetable) → is_better hard 0 I.weights (of_bill (bill_of I Q)) (of_bill (bill_of I P)) ≡ true
    → IsNoDearer I P Q
cheaper-no_dearer I hard P Q on =
    let facts = better-facts hard 0 I.weights (of_bill (bill_of I Q)) (of_bill (bill_of I P)) on in
    record { works = λ h. (facts h).0; cheap = λ h. let most = (facts h).1 in omega (arith, ints, most) }

-- ---- no worse

pub no_worse-same : (t : Terms) (P : Timetable) → IsNoWorse t P P
no_worse-same t P = record { works = λ h. h; cheap = λ h. omega (arith, ints) }

pub no_worse-through : (t : Terms) (P Q R : Timetable) → IsNoWorse t P Q → IsNoWorse t Q R → IsNoWorse t P R
no_worse-through t P Q R first second = record {
  works = λ h. second.works (first.works h);
  cheap = λ h. let low = first.cheap h in let lower = second.cheap (first.works h) in omega (arith, ints, low, lower);
}

-- the start has no changes
pub none-counted : (t : Terms) → counted_changes t t.start ≡ 0
none-counted t = by_case (t.settings.keep == 0)
  where
    by_case : (b : Bool) → (if b then 0 else changes t.instance t.start t.start) ≡ 0
    by_case true = refl
    by_case false = no-changes t.instance t.start

no-points : (t : Terms) → t.settings.keep * counted_changes t t.start ≡ 0
no-points t = ap (λ n. t.settings.keep * n) (none-counted t) ∙ omega arith

-- so what is no worse than the start is no dearer
pub no_worse-no_dearer : (t : Terms) (P : Timetable) → IsNoWorse t t.start P → IsNoDearer t.instance t.start P
no_worse-no_dearer t P no_worse = record {
  works = no_worse.works;
  cheap = λ h.
      let most = no_worse.cheap h in
      let none = no-points t in
      omega (arith, ints, most, none);
}

module _ (t : Terms) where
  abbrev pub IsBetter : Timetable → Timetable → Type 0
  IsBetter A B = is_better_than t A B ≡ true

  pub better-no_worse : (P Q : Timetable) → IsBetter Q P → IsNoWorse t P Q
  better-no_worse P Q on =
      let facts = better-facts t.settings.hard t.settings.keep t.instance.weights (standing_of t Q) (standing_of t P) on in
      record { works = λ h. (facts h).0; cheap = λ h. (facts h).1 }

  pub better_of-no_worse : (P Q : Timetable) → IsNoWorse t P (better_of t P Q)
  unfolding better_of
  better_of-no_worse P Q = by_case (is_better_than t Q P) refl
    where
      by_case : (b : Bool) → is_better_than t Q P ≡ b → IsNoWorse t P (if b then Q else P)
      by_case false off = no_worse-same t P
      by_case true on = better-no_worse P Q on

  -- where a feasible one isn't beaten, it is no worse
  pub unbeaten-no_worse : (P H : Timetable) → feasible (bill_of t.instance H) ≡ true → is_better_than t P H ≡ false → IsNoWorse t P H
  unbeaten-no_worse P H works unbeaten = record {
    works = λ first. works;
    cheap = λ first.
        let a : Standing = standing_of t P in
        let b : Standing = standing_of t H in
        let w = t.instance.weights in
        let keep = t.settings.keep in
        not-less (cost w a.bill) (cost w b.bill) (keep * a.changes) (keep * b.changes)
        (unpicked (feasible a.bill) (feasible b.bill) (is_less (cost w a.bill) (keep * a.changes) (cost w b.bill) (keep * b.changes))
        (int_lt (score t.settings.hard w a.bill) (score t.settings.hard w b.bill)) first works unbeaten);
  }

  pub better-second : (P Q : Timetable) → IsBetter Q P → Q ≡ better_of t P Q
  unfolding better_of
  better-second P Q on = ap (λ (b : Bool). if b then Q else P) (sym on)

  pub better-first : (P Q : Timetable) → is_better_than t Q P ≡ false → P ≡ better_of t P Q
  unfolding better_of
  better-first P Q off = ap (λ (b : Bool). if b then Q else P) (sym off)

  -- the best of all is the first, or better
  first-or-better : (P : Timetable) (Qs : List Timetable) → (best_of t P Qs ≡ P) ⊎ IsBetter (best_of t P Qs) P
  first-or-better P [] = inl refl
  first-or-better P (Q ∷ Qs) = by_case (λ A. first-or-better A Qs) (is_better_than t Q P) refl
    where
      onward : IsBetter Q P → (best_of t Q Qs ≡ Q) ⊎ IsBetter (best_of t Q Qs) Q → IsBetter (best_of t Q Qs) P
      onward on (inl is) = subst (λ (A : Timetable). IsBetter A P) (sym is) on
      onward on (inr more) =
          better-through t.settings.hard t.settings.keep t.instance.weights (standing_of t (best_of t Q Qs)) (standing_of t Q) (standing_of t P) more on

      by_case : ((A : Timetable) → (best_of t A Qs ≡ A) ⊎ IsBetter (best_of t A Qs) A) → (b : Bool)
          → is_better_than t Q P ≡ b → (best_of t (better_of t P Q) Qs ≡ P) ⊎ IsBetter (best_of t (better_of t P Q) Qs) P
      by_case rest false off = subst (λ (A : Timetable). (best_of t A Qs ≡ P) ⊎ IsBetter (best_of t A Qs) P) (better-first P Q off) (rest P)
      by_case rest true on = inr (subst (λ (A : Timetable). IsBetter (best_of t A Qs) P) (better-second P Q on) (onward on (rest Q)))

  pub best-same : (P : Timetable) (Qs : List Timetable) → is_better_than t (best_of t P Qs) P ≡ false → best_of t P Qs ≡ P
  best-same P Qs off = by_case (first-or-better P Qs)
    where
      by_case : (best_of t P Qs ≡ P) ⊎ IsBetter (best_of t P Qs) P → best_of t P Qs ≡ P
      by_case (inl is) = is
      by_case (inr on) = absurd (let no : false ≡ true = sym off ∙ on in cc)

  -- what holds of both holds of the better one
  pub better-either : (X : Timetable → Type 0) (P Q : Timetable) → X P → X Q → X (better_of t P Q)
  unfolding better_of
  better-either X P Q hp hq = by_case (is_better_than t Q P)
    where
      by_case : (b : Bool) → X (if b then Q else P)
      by_case true = hq
      by_case false = hp

  module _ (from : Timetable) where
    better-follows : (P Q : Timetable) → MayFollow t from P → MayStand t Q → MayFollow t from (better_of t P Q)
    better-follows P Q may stands = record {
      stands = better-either (MayStand t) P Q may.stands stands;
      no_worse = no_worse-through t from P (better_of t P Q) may.no_worse (better_of-no_worse P Q);
    }

    pub best-follows : (P : Timetable) (Qs : List Timetable) → MayFollow t from P
        → ((w : ℕ) (Q : Timetable) → slice_get Qs w ≡ Some Q → MayFollow t from Q) → MayFollow t from (best_of t P Qs)
    best-follows P [] may each = may
    best-follows P (Q ∷ Qs) may each =
        best-follows (better_of t P Q) Qs (better-follows P Q may (each 0 Q refl).stands) (λ w R there. each (suc w) R there)

-- in place of what took another's place
pub follows-through : (t : Terms) (start from P : Timetable) → MayFollow t start from → MayFollow t from P → MayFollow t start P
follows-through t start from P first second = record {
  stands = second.stands;
  no_worse = no_worse-through t start from P first.no_worse second.no_worse;
}
