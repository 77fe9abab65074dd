-- What another choice of nurse makes of the distinct nurses over a stay's shifts.
use Rattle.std.proofs.Common.{◌≡◌, ℕ, zero, suc, ◌+◌, ◌<◌, ◌≤◌, refl, arith, sym, ap, ◌∙◌, Bool, true, false, inl, inr, List, [], ◌∷◌, map, Option, Some, None}
use Rattle.std.specs.Prelude.{◌||◌, ◌&&◌, ◌==◌, not, option_map, IfSome, nat_le, nat_lt}
use Rattle.std.specs.List.{list_any, range_with_len}
use Rattle.std.proofs.lemmas.Bool.{cases_eq, cases_Bool, eq-eqb, ne_eqb, eqb-true, le-leb, lt-ltb, leb-true, ltb-true, and_parts}
use Rattle.ih_tables.specs.declared.drafts.Draft.{Draft}
use Rattle.ih_tables.specs.declared.ids.RoomNo.{RoomNo}
use Rattle.ih_tables.specs.declared.ids.Shift.{Shift}
use Rattle.ih_tables.specs.declared.ids.NurseNo.{NurseNo}
use Rattle.ih_tables.specs.Sizes.{nurse_count, room_count, shift_count}
use Rattle.std.proofs.Math.Bool.{or-false}
use Rattle.ih_plan.specs.declared.moves.Write.TheVariants.{SetCare}
use Rattle.ih_plan.specs.Timetable.{Timetable, IsPlanOf, choice_of, care_of}
use Rattle.ih_plan.specs.Writes.{put}
use Rattle.ih_plan.specs.Persons.{person_of}
use Rattle.ih_plan.specs.Presence.{admission_of, in_span}
use Rattle.ih_plan.specs.Costs.{is_number, distinct_nurses}
use Rattle.ih_plan.specs.Sums.{bit, count_below}
use Rattle.ih_plan.proofs.SumLemmas.{sum_below-but, sum_below-same}
use Rattle.ih_plan.proofs.Entries.{care_of-same, care_of-other}
use Rattle.ih_plan.proofs.PlanRanges.{nurse-inside}
use Rattle.ih_nurses.specs.declared.shift_spans.ShiftSpan.{ShiftSpan}
use Rattle.ih_nurses.specs.ShiftSpans.{IsShiftSpan, nurses_over, shift_span_in}

-- ---- a nurse who is met in one shift of a stay alone

-- shift k of room r is one of the span of shifts
abbrev pub has_shift : ShiftSpan → ℕ → ℕ → Bool
has_shift s r k = (s.room.0 == r) && in_span s.from (s.from + s.len) k

-- nurse m has a shift of the span of shifts other than shift k
abbrev pub has_other : Timetable → ShiftSpan → ℕ → ℕ → Bool
has_other P s k m = list_any (λ j. not (j == k) && is_number (care_of P s.room.0 j) m) (range_with_len s.from s.len)

-- 1 where there is a nurse who isn't marked
abbrev pub fresh : (ℕ → Bool) → Option NurseNo → ℕ
fresh marked None = 0
fresh marked (Some a) = bit (not (marked a.0))

-- 1 where a choice for room r in shift k is a nurse who has no other of the shifts, and 0 where not
abbrev pub newly_seen : Timetable → Option ShiftSpan → ℕ → ℕ → Option NurseNo → ℕ
newly_seen P None r k n = 0
newly_seen P (Some s) r k None = 0
newly_seen P (Some s) r k (Some m) = bit (has_shift s r k && not (has_other P s k m.0))

-- the same over the counted shifts of person x's stay
abbrev pub newly_seen_of : Draft → Timetable → ℕ → ℕ → Option NurseNo → ℕ → ℕ
newly_seen_of I P r k n x = newly_seen P (shift_span_in I (admission_of I P x) (person_of I x).length_of_stay) r k n

-- ---- tests over a range

any-other : (q : ℕ → Bool) (k a n : ℕ) → k < a → list_any q (range_with_len a n) ≡ list_any (λ j. not (j == k) && q j) (range_with_len a n)
any-other q k a zero h = refl
any-other q k a (suc n) h = rw (ne_eqb a k (λ e. omega arith), any-other q k (a + 1) n (omega arith)) refl

-- some test holds in the range: at k, or at another number
any-split : (q : ℕ → Bool) (k a n : ℕ) → a ≤ k → k < a + n → list_any q (range_with_len a n) ≡ (list_any (λ j. not (j == k) && q j) (range_with_len a n) || q k)
any-split q k a zero low high = absurd (omega arith)
any-split q k a (suc n) low high = elim (cases_eq a k) [
  | inl e ↦ rw (eq-eqb a k e, any-other q k (a + 1) n (omega arith), ap q e) (turned (q k) (list_any (λ j. not (j == k) && q j) (range_with_len (a + 1) n)))
  | inr ne ↦ rw (ne_eqb a k ne, any-split q k (a + 1) n (omega arith) (omega arith)) (grouped (q a) (list_any (λ j. not (j == k) && q j) (range_with_len (a + 1) n)) (q k))
]
  where
    turned : (b c : Bool) → (b || c) ≡ (c || b)
    turned true true = refl
    turned true false = refl
    turned false true = refl
    turned false false = refl

    grouped : (b c d : Bool) → (b || (c || d)) ≡ ((b || c) || d)
    grouped true c d = refl
    grouped false c d = refl

-- one number more
pub any-more : (q : ℕ → Bool) (a n : ℕ) → list_any q (range_with_len a (n + 1)) ≡ (list_any q (range_with_len a n) || q (a + n))
any-more q a zero = let place : a + 0 ≡ a = omega arith in rw place (last (q a))
  where
    last : (b : Bool) → (b || false) ≡ (false || b)
    last true = refl
    last false = refl
any-more q a (suc n) =
    let place : a + 1 + n ≡ a + suc n = omega arith in
    let more : suc n + 1 ≡ suc (n + 1) = omega arith in
    rw (more, any-more q (a + 1) n, place) (grouped (q a) (list_any q (range_with_len (a + 1) n)) (q (a + suc n)))
  where
    grouped : (b c d : Bool) → (b || (c || d)) ≡ ((b || c) || d)
    grouped true c d = refl
    grouped false c d = refl

any-mapped : {A : Type 0} (q : A → Bool) (f : ℕ → A) (xs : List ℕ) → list_any q (map f xs) ≡ list_any (λ j. q (f j)) xs
any-mapped q f [] = refl
any-mapped q f (x ∷ xs) = ap (λ b. q (f x) || b) (any-mapped q f xs)

any-same : (p q : ℕ → Bool) (a n : ℕ) → ((j : ℕ) → a ≤ j → j < a + n → p j ≡ q j) → list_any p (range_with_len a n) ≡ list_any q (range_with_len a n)
any-same p q a zero e = refl
any-same p q a (suc n) e = rw (e a (omega arith) (omega arith), any-same p q (a + 1) n (λ j low high. e j (omega arith) (omega arith))) refl

map-same : {A : Type 0} (f g : ℕ → A) (a n : ℕ) → ((j : ℕ) → a ≤ j → j < a + n → f j ≡ g j) → map f (range_with_len a n) ≡ map g (range_with_len a n)
map-same f g a zero e = refl
map-same f g a (suc n) e = rw (e a (omega arith) (omega arith), map-same f g (a + 1) n (λ j low high. e j (omega arith) (omega arith))) refl

-- ---- one number more

or-all : (b : Bool) → (b || true) ≡ true
or-all true = refl
or-all false = refl

pub bit-not : (b : Bool) → bit b + bit (not b) ≡ 1
bit-not true = refl
bit-not false = refl

count-fresh : (m : ℕ) (marked : ℕ → Bool) (o : Option NurseNo) → IfSome o (λ a. a.0 < m)
    → count_below m (λ i. marked i || is_number (option_map (λ (a : NurseNo). a.0) o) i) ≡ count_below m marked + fresh marked o
count-fresh m marked None h =
    let same = sum_below-same m (λ i. bit (marked i || false)) (λ i. bit (marked i)) (λ i ih. ap bit (or-false (marked i))) in
    omega (arith, same)
count-fresh m marked (Some a) h =
    let change = sum_below-but m a.0 (λ i. bit (marked i || (a.0 == i))) (λ i. bit (marked i)) h
    (λ i ih ne. rw (ne_eqb a.0 i (λ e. ne (sym e))) (ap bit (or-false (marked i)))) in
    let here : bit (marked a.0 || (a.0 == a.0)) ≡ 1 = rw (eq-eqb a.0 a.0 refl) (ap bit (or-all (marked a.0))) in
    omega (arith, change, here, bit-not (marked a.0))

-- ---- the nurses of a span of shifts

module _ (I : Draft) (P : Timetable) (s : ShiftSpan) (k : ℕ) (o : Option NurseNo) (low : s.from ≤ k) (high : k < s.from + s.len)
    (choice : option_map (λ (a : NurseNo). a.0) o ≡ care_of P s.room.0 k) (nurse : IfSome o (λ a. a.0 < nurse_count I)) where
  -- the distinct nurses are those of the other shifts, and the nurse of shift k where new
  distinct-split : distinct_nurses I (nurses_over P (Some s)) ≡ count_below (nurse_count I) (has_other P s k) + fresh (has_other P s k) o
  distinct-split =
      sum_below-same (nurse_count I) (λ n. bit (list_any (λ c. is_number c n) (map (care_of P s.room.0) (range_with_len s.from s.len))))
      (λ n. bit (has_other P s k n || is_number (option_map (λ (a : NurseNo). a.0) o) n))
      (λ n h. ap bit (any-mapped (λ c. is_number c n) (care_of P s.room.0) (range_with_len s.from s.len)
      ∙ (any-split (λ j. is_number (care_of P s.room.0 j) n) k s.from s.len low high ∙ rw choice refl)))
      ∙ count-fresh (nurse_count I) (has_other P s k) o nurse

newly-within : (P : Timetable) (s : ShiftSpan) (r k : ℕ) (o : Option NurseNo) → has_shift s r k ≡ true → newly_seen P (Some s) r k o ≡ fresh (has_other P s k) o
newly-within P s r k None h = refl
newly-within P s r k (Some a) h = rw h refl

newly-outside : (P : Timetable) (s : ShiftSpan) (r k : ℕ) (o : Option NurseNo) → has_shift s r k ≡ false → newly_seen P (Some s) r k o ≡ 0
newly-outside P s r k None h = refl
newly-outside P s r k (Some a) h = rw h refl

module _ (I : Draft) (P : Timetable) (r : RoomNo) (k : Shift) (new : Option NurseNo) (plan : IsPlanOf I P) (room : r.0 < room_count I) (shift : k.0 < shift_count I)
    (nurse : IfSome new (λ a. a.0 < nurse_count I)) where
  -- the span of shifts has the shift
  seen-within : (s : ShiftSpan) → IsShiftSpan I s → has_shift s r.0 k.0 ≡ true
      → newly_seen P (Some s) r.0 k.0 new + distinct_nurses I (nurses_over P (Some s))
      ≡ distinct_nurses I (nurses_over (put (SetCare r k new) P) (Some s)) + newly_seen P (Some s) r.0 k.0 (choice_of P r.0 k.0)
  seen-within s inside h =
      let parts = and_parts (s.room.0 == r.0) (in_span s.from (s.from + s.len) k.0) h in
      let here : s.room.0 ≡ r.0 = eqb-true s.room.0 r.0 parts.0 in
      let span = and_parts (nat_le s.from k.0) (nat_lt k.0 (s.from + s.len)) parts.1 in
      let low = leb-true s.from k.0 span.0 in
      let high = ltb-true k.0 (s.from + s.len) span.1 in
      let old = choice_of P r.0 k.0 in
      let before = distinct-split I P s k.0 old low high (ap (λ m. care_of P m k.0) (sym here)) (nurse-inside I P r.0 k.0 plan) in
      let after = distinct-split I (put (SetCare r k new) P) s k.0 new low high
      (sym (ap (λ m. care_of (put (SetCare r k new) P) m k.0) here ∙ care_of-same I P r k new plan room shift)) nurse in
      let each : (n : ℕ) → has_other (put (SetCare r k new) P) s k.0 n ≡ has_other P s k.0 n = λ n.
      any-same (λ j. not (j == k.0) && is_number (care_of (put (SetCare r k new) P) s.room.0 j) n) (λ j. not (j == k.0) && is_number (care_of P s.room.0 j) n) s.from s.len
      (λ j from to. elim (cases_eq j k.0) [
        | inl e ↦ rw (eq-eqb j k.0 e) refl
        | inr ne ↦ rw (care_of-other I P r k new s.room.0 j plan shift (let whole = inside.1 in omega arith) (λ same now. ne now)) refl
      ]) in
      let counts = sum_below-same (nurse_count I) (λ n. bit (has_other (put (SetCare r k new) P) s k.0 n)) (λ n. bit (has_other P s k.0 n)) (λ n nh. ap bit (each n)) in
      let fresh_one = fresh-same (has_other (put (SetCare r k new) P) s k.0) (has_other P s k.0) new each in
      omega (arith, before, after, counts, fresh_one, newly-within P s r.0 k.0 new h, newly-within P s r.0 k.0 old h)
    where
      fresh-same : (p q : ℕ → Bool) (o : Option NurseNo) → ((n : ℕ) → p n ≡ q n) → fresh p o ≡ fresh q o
      fresh-same p q None e = refl
      fresh-same p q (Some a) e = ap (λ b. bit (not b)) (e a.0)

  -- it hasn't
  seen-outside : (s : ShiftSpan) → IsShiftSpan I s → has_shift s r.0 k.0 ≡ false
      → nurses_over (put (SetCare r k new) P) (Some s) ≡ nurses_over P (Some s)
  seen-outside s inside h =
      map-same (care_of (put (SetCare r k new) P) s.room.0) (care_of P s.room.0) s.from s.len
      (λ j from to. care_of-other I P r k new s.room.0 j plan shift (let whole = inside.1 in omega arith)
      (λ same now. absurd (let yes : has_shift s r.0 k.0 ≡ true = rw (eq-eqb s.room.0 r.0 same, le-leb s.from k.0 (omega arith), lt-ltb k.0 (s.from + s.len) (omega arith)) refl in
      let no : true ≡ false = sym yes ∙ h in cc)))

  pub seen-change : (o : Option ShiftSpan) → IfSome o (IsShiftSpan I)
      → newly_seen P o r.0 k.0 new + distinct_nurses I (nurses_over P o)
      ≡ distinct_nurses I (nurses_over (put (SetCare r k new) P) o) + newly_seen P o r.0 k.0 (choice_of P r.0 k.0)
  seen-change None inside = omega arith
  seen-change (Some s) inside = elim (cases_Bool (has_shift s r.0 k.0)) [
    | inl h ↦ seen-within s inside h
    | inr h ↦
        let same = ap (distinct_nurses I) (seen-outside s inside h) in
        omega (arith, same, newly-outside P s r.0 k.0 new h, newly-outside P s r.0 k.0 (choice_of P r.0 k.0) h)
  ]
