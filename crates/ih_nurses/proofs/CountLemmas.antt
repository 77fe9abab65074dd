-- The counts of a stay's shifts, shift by shift, and what another stay and another choice of nurse make of them.
use Rattle.std.proofs.Common.{◌≡◌, ℕ, zero, suc, ◌+◌, ◌-◌, ◌*◌, ◌/◌, ◌<◌, ◌≤◌, refl, arith, sym, ap, ◌∙◌, Bool, true, false, inl, inr, List, length, Option, Some, None, min}
use Rattle.std.specs.Prelude.{◌==◌, ◌&&◌, if◌then◌else◌, nat_le, nat_lt, option_map}
use Rattle.std.proofs.lemmas.Bool.{cases_eq, cases_lt, eq-eqb, ne_eqb, eqb-true, le-leb, lt-leb, lt-ltb, le-ltb, leb-true, ltb-true, and_parts}
use Rattle.ih_tables.specs.declared.drafts.Draft.{Draft}
use Rattle.ih_tables.specs.declared.ids.RoomNo.{RoomNo}
use Rattle.ih_tables.specs.declared.ids.Shift.{Shift}
use Rattle.ih_tables.specs.declared.ids.NurseNo.{NurseNo}
use Rattle.ih_tables.specs.Sizes.{patient_count, person_count, room_count, nurse_count, shift_count}
use Rattle.ih_tables.specs.Valid.{IsValid}
use Rattle.ih_plan.specs.declared.moves.Placement.{Placement}
use Rattle.ih_plan.specs.declared.moves.Write.TheVariants.{SetCare}
use Rattle.ih_plan.specs.Timetable.{Timetable, IsPlanOf, stay_of, choice_of, care_of}
use Rattle.ih_plan.specs.Writes.{put}
use Rattle.ih_plan.specs.Persons.{person_of}
use Rattle.ih_plan.specs.Presence.{Admission, admission_of, end_from, placed_at, covers, day_of, in_span, is_in, is_present}
use Rattle.ih_plan.specs.Costs.{is_number}
use Rattle.ih_plan.specs.Sums.{bit, count_below, sum_below}
use Rattle.ih_plan.proofs.SumLemmas.{sum_below-zero, sum_below-more, sum_below-but, sum_below-same, sum_below-le}
use Rattle.ih_plan.proofs.Entries.{admission-patient, admission-same, care_of-same, care_of-other}
use Rattle.ih_plan.proofs.TestLemmas.{bit-most, if-none}
use Rattle.ih_nurses.specs.declared.shift_spans.ShiftSpan.{ShiftSpan}
use Rattle.ih_nurses.specs.Counts.{AreCounts, count_at, count_of, nursed_in, one_of}
use Rattle.ih_nurses.specs.ShiftSpans.{shift_span_in}
use Rattle.ih_nurses.proofs.AdmitLemmas.{IsAdmission}
use Rattle.ih_nurses.proofs.NewlyLemmas.{has_shift}
use Rattle.ih_nurses.proofs.ShiftSpanLemmas.{shift_span-kept}

-- a sum over fewer numbers isn't more
sum_below-fewer : (n j : ℕ) (f : ℕ → ℕ) → j ≤ n → sum_below j f ≤ sum_below n f
unfolding sum_below
sum_below-fewer zero j f h = let e : j ≡ 0 = omega arith in rw e (omega arith)
sum_below-fewer (suc n) j f h = elim (cases_eq j (suc n)) [
  | inl e ↦ rw e (omega arith)
  | inr ne ↦ let rest = sum_below-fewer n j f (omega arith) in omega arith
]

-- ---- shift by shift

-- how many of the first j shifts of a span of shifts nurse m has
abbrev pub first_in : Timetable → ShiftSpan → ℕ → ℕ → ℕ
first_in P s m j = count_below j (λ i. is_number (care_of P s.room.0 (s.from + i)) m)

pub first-few : (P : Timetable) (s : ShiftSpan) (m j : ℕ) → first_in P s m j ≤ j
first-few P s m j =
    let most = sum_below-le j 1 (λ i. bit (is_number (care_of P s.room.0 (s.from + i)) m)) (λ i h. bit-most (is_number (care_of P s.room.0 (s.from + i)) m)) in
    omega (arith, most)

module _ (P : Timetable) (x : ℕ) (s : ShiftSpan) where
  -- person x has as many, and nobody else has any
  abbrev pub first_for : ℕ → ℕ → ℕ → ℕ
  first_for y m j = if x == y then first_in P s m j else 0

  first_for-none : (y m : ℕ) → first_for y m 0 ≡ 0
  first_for-none y m = rw (sum_below-zero (λ i. bit (is_number (care_of P s.room.0 (s.from + i)) m))) (if-none (x == y))

  first_for-own : (m j : ℕ) → first_for x m j ≡ first_in P s m j
  first_for-own m j = rw (eq-eqb x x refl) refl

  first_for-more : (y m j : ℕ) (nurse : Option NurseNo) → nurse ≡ choice_of P s.room.0 (s.from + j) → first_for y m (j + 1) ≡ first_for y m j + one_of x nurse y m
  first_for-more y m j nurse is =
      rw (sum_below-more j (λ i. bit (is_number (care_of P s.room.0 (s.from + i)) m)), is)
      (one_more (x == y) (first_in P s m j) (is_number (care_of P s.room.0 (s.from + j)) m))
    where
      one_more : (b : Bool) (n : ℕ) (c : Bool) → (if b then n + bit c else 0) ≡ (if b then n else 0) + bit (b && c)
      one_more true n c = refl
      one_more false n c = refl

-- the first j shifts are counted
pub record AreCounted (I : Draft) (P : Timetable) (x : ℕ) (s : ShiftSpan) (old counts : List ℕ) (j : ℕ) : Type 0 where
  pub len : length counts ≡ length old
  pub each : (y m : ℕ) → m < nurse_count I → count_at I counts y m ≡ count_at I old y m + first_for P x s y m j

-- the first j shifts are no longer counted
pub record AreUncounted (I : Draft) (P : Timetable) (x : ℕ) (s : ShiftSpan) (old counts : List ℕ) (j : ℕ) : Type 0 where
  pub len : length counts ≡ length old
  pub each : (y m : ℕ) → m < nurse_count I → count_at I counts y m + first_for P x s y m j ≡ count_at I old y m

module _ (I : Draft) (P : Timetable) (x : ℕ) (s : ShiftSpan) (old : List ℕ) where
  pub counted-none : AreCounted I P x s old old 0
  counted-none = record { len = refl; each = λ y m mh. let none = first_for-none P x s y m in omega (arith, none) }

  pub uncounted-none : AreUncounted I P x s old old 0
  uncounted-none = record { len = refl; each = λ y m mh. let none = first_for-none P x s y m in omega (arith, none) }

module _ {I : Draft} {P : Timetable} {x : ℕ} {s : ShiftSpan} {old counts : List ℕ} {j : ℕ} where
  pub counted-fits : AreCounted I P x s old counts j → ((m : ℕ) → m < nurse_count I → count_at I old x m ≡ 0) → (m : ℕ) → m < nurse_count I → count_at I counts x m ≤ j
  counted-fits so_far none m mh =
      omega (arith, so_far.each x m mh, none m mh, first_for-own P x s m j, first-few P s m j)

  pub uncounted-enough : AreUncounted I P x s old counts j → j < s.len → (nurse : Option NurseNo) → nurse ≡ choice_of P s.room.0 (s.from + j)
      → ((m : ℕ) → m < nurse_count I → nursed_in P (Some s) m ≤ count_at I old x m) → (m : ℕ) → m < nurse_count I → one_of x nurse x m ≤ count_at I counts x m
  uncounted-enough so_far jh nurse is enough m mh =
      omega (
        arith,
        so_far.each x m mh,
        enough m mh,
        first_for-own P x s m j,
        first_for-own P x s m (j + 1),
        first_for-more P x s x m j nurse is,
        sum_below-fewer s.len (j + 1) (λ i. bit (is_number (care_of P s.room.0 (s.from + i)) m)) (omega arith),
      )

  pub counted-more : AreCounted I P x s old counts j → (nurse : Option NurseNo) → nurse ≡ choice_of P s.room.0 (s.from + j) → (new : List ℕ) → length new ≡ length counts
      → ((y m : ℕ) → m < nurse_count I → count_at I new y m ≡ count_at I counts y m + one_of x nurse y m) → AreCounted I P x s old new (j + 1)
  counted-more so_far nurse is new len each = record {
    len = len ∙ so_far.len;
    each = λ y m mh. omega (arith, each y m mh, so_far.each y m mh, first_for-more P x s y m j nurse is);
  }

  pub counted-all : j ≡ s.len → AreCounted I P x s old counts j
      → (y m : ℕ) → m < nurse_count I → count_at I counts y m ≡ count_at I old y m + first_for P x s y m s.len
  counted-all all so_far = (rw all at so_far).each

  pub uncounted-all : j ≡ s.len → AreUncounted I P x s old counts j
      → (y m : ℕ) → m < nurse_count I → count_at I counts y m + first_for P x s y m s.len ≡ count_at I old y m
  uncounted-all all so_far = (rw all at so_far).each

  pub uncounted-more : AreUncounted I P x s old counts j → (nurse : Option NurseNo) → nurse ≡ choice_of P s.room.0 (s.from + j) → (new : List ℕ) → length new ≡ length counts
      → ((y m : ℕ) → m < nurse_count I → count_at I new y m + one_of x nurse y m ≡ count_at I counts y m) → AreUncounted I P x s old new (j + 1)
  uncounted-more so_far nurse is new len each = record {
    len = len ∙ so_far.len;
    each = λ y m mh. omega (arith, each y m mh, so_far.each y m mh, first_for-more P x s y m j nurse is);
  }

-- ---- another stay

nursed-alike : (P Q : Timetable) → ((r k : ℕ) → care_of Q r k ≡ care_of P r k) → (o : Option ShiftSpan) (m : ℕ) → nursed_in Q o m ≡ nursed_in P o m
nursed-alike P Q cares None m = refl
nursed-alike P Q cares (Some s) m =
    sum_below-same s.len (λ j. bit (is_number (care_of Q s.room.0 (s.from + j)) m)) (λ j. bit (is_number (care_of P s.room.0 (s.from + j)) m))
    (λ j h. ap (λ o. bit (is_number o m)) (cares s.room.0 (s.from + j)))

-- who isn't admitted has no counts
pub count-none : (I : Draft) (P : Timetable) (p m : ℕ) → p < patient_count I → stay_of P p ≡ None → count_of I P p m ≡ 0
count-none I P p m patient free = rw (admission-patient I P p patient, free) refl

-- a count is at most that of all shifts
pub count-few : (I : Draft) (P : Timetable) (x m : ℕ) → IsValid I → count_of I P x m ≤ 168
count-few I P x m valid = by_case (admission_of I P x) (person_of I x).length_of_stay
  where
    by_case : (o : Option Admission) (n : ℕ) → nursed_in P (shift_span_in I o n) m ≤ 168
    by_case None n = omega arith
    by_case (Some a) n =
        let days = valid.days.most in
        omega (arith, days, first-few P (record { room = record { 0 = a.room }; from = 3 * a.day; len = 3 * (end_from I a.day n - a.day) }) m (3 * (end_from I a.day n - a.day)))

module _ {I : Draft} {P Q : Timetable} {p : ℕ} {at : Placement} (a : IsAdmission I P Q p at) where
  -- the patient's counted shifts
  abbrev pub shift_span_at : Option ShiftSpan
  shift_span_at = shift_span_in I (Some (placed_at at)) (person_of I p).length_of_stay

  count-placed : (s : ShiftSpan) → Some s ≡ shift_span_at → (m : ℕ) → count_of I Q p m ≡ nursed_in Q (Some s) m
  count-placed s is m =
      let placed : count_of I Q p m ≡ nursed_in Q shift_span_at m = rw (admission-patient I Q p a.patient, a.after) refl in
      placed ∙ sym (ap (λ o. nursed_in Q o m) is)

  count-other : (y m : ℕ) → (y ≡ p → ⊥) → count_of I Q y m ≡ count_of I P y m
  count-other y m ne =
      ap (λ o. nursed_in Q (shift_span_in I o (person_of I y).length_of_stay) m) (admission-same I Q P y (a.others y ne))
      ∙ nursed-alike P Q a.cares (shift_span_in I (admission_of I P y) (person_of I y).length_of_stay) m

  own : (n : ℕ) → (if p == p then n else 0) ≡ n
  own n = rw (eq-eqb p p refl) refl

  other : (y n : ℕ) → (y ≡ p → ⊥) → (if p == y then n else 0) ≡ 0
  other y n ne = rw (ne_eqb p y (λ e. ne (sym e))) refl

  person : p < person_count I
  person = let patient = a.patient in omega arith

  pub counts-added : (s : ShiftSpan) → Some s ≡ shift_span_at → (old new : List ℕ) → AreCounts I P old → length new ≡ length old
      → ((y m : ℕ) → m < nurse_count I → count_at I new y m ≡ count_at I old y m + (if p == y then nursed_in P (Some s) m else 0)) → AreCounts I Q new
  counts-added s is old new known len each = record {
    len = len ∙ known.len;
    each = λ y m yh mh. elim (cases_eq y p) [
      | inl same ↦
          let before = known.each p m person mh ∙ count-none I P p m a.patient a.before in
          let after = count-placed s is m ∙ nursed-alike P Q a.cares (Some s) m in
          rw same (omega (arith, each p m mh, own (nursed_in P (Some s) m), before, after))
      | inr ne ↦ omega (arith, each y m mh, other y (nursed_in P (Some s) m) ne, known.each y m yh mh, count-other y m ne)
    ];
  }

  pub counts-taken : (s : ShiftSpan) → Some s ≡ shift_span_at → (old new : List ℕ) → AreCounts I Q old → length new ≡ length old
      → ((y m : ℕ) → m < nurse_count I → count_at I new y m + (if p == y then nursed_in Q (Some s) m else 0) ≡ count_at I old y m) → AreCounts I P new
  counts-taken s is old new known len each = record {
    len = len ∙ known.len;
    each = λ y m yh mh. elim (cases_eq y p) [
      | inl same ↦
          rw same (omega (arith, each p m mh, own (nursed_in Q (Some s) m), known.each p m person mh, count-placed s is m, count-none I P p m a.patient a.before))
      | inr ne ↦ omega (arith, each y m mh, other y (nursed_in Q (Some s) m) ne, known.each y m yh mh, count-other y m ne)
    ];
  }

  -- the stay's shifts are counted
  pub counts-enough : (s : ShiftSpan) → Some s ≡ shift_span_at → (old : List ℕ) → AreCounts I Q old → (m : ℕ) → m < nurse_count I → nursed_in Q (Some s) m ≤ count_at I old p m
  counts-enough s is old known m mh =
      omega (arith, known.each p m person mh, count-placed s is m)

-- ---- another choice of nurse

-- a shift of a stay, as far as the horizon goes, is one on its days
spans : (a n days k : ℕ) → k < 3 * days → in_span (3 * a) (3 * a + 3 * (min (a + n) days - a)) k ≡ covers a n (k / 3)
spans a n days k h = elim (cases_lt k (3 * a)) [
  | inl below ↦
      let before : k / 3 < a = omega arith in
      rw (lt-leb (3 * a) k below, lt-leb a (k / 3) before) refl
  | inr above ↦
      let begun : a ≤ k / 3 = omega arith in
      rw (le-leb (3 * a) k above, le-leb a (k / 3) begun) (elim (cases_lt (k / 3) (a + n)) [
        | inl early ↦
            let inside : k < 3 * a + 3 * (min (a + n) days - a) = omega arith in
            rw (lt-ltb (k / 3) (a + n) early, lt-ltb k (3 * a + 3 * (min (a + n) days - a)) inside) refl
        | inr late ↦
            let past : 3 * a + 3 * (min (a + n) days - a) ≤ k = omega arith in
            rw (le-ltb (k / 3) (a + n) late, le-ltb k (3 * a + 3 * (min (a + n) days - a)) past) refl
      ])
]

-- the counted shifts of an admission
abbrev pub shift_span_of : Draft → Admission → ℕ → ShiftSpan
shift_span_of I a n = record { room = record { 0 = a.room }; from = 3 * a.day; len = 3 * (end_from I a.day n - a.day) }

pub there-shift : (I : Draft) (a : Admission) (n r k : ℕ) → k < shift_count I → has_shift (shift_span_of I a n) r k ≡ is_in (Some a) n r (day_of k)
there-shift I a n r k h = ap (λ b. (a.room == r) && b) (spans a.day n I.days k h)

-- one shift's place in a span of shifts that has it
pub record IsShiftOf (s : ShiftSpan) (r k : ℕ) : Type 0 where
  pub room : s.room.0 ≡ r
  pub low : s.from ≤ k
  pub high : k < s.from + s.len

pub shift-of : (s : ShiftSpan) (r k : ℕ) → has_shift s r k ≡ true → IsShiftOf s r k
shift-of s r k h =
    let parts = and_parts (s.room.0 == r) (in_span s.from (s.from + s.len) k) h in
    let span = and_parts (nat_le s.from k) (nat_lt k (s.from + s.len)) parts.1 in
    record { room = eqb-true s.room.0 r parts.0; low = leb-true s.from k span.0; high = ltb-true k (s.from + s.len) span.1 }

module _ (I : Draft) (P : Timetable) (r : RoomNo) (k : Shift) (new : Option NurseNo) (plan : IsPlanOf I P) (room : r.0 < room_count I) (shift : k.0 < shift_count I) where
  nursed-moves : (s : ShiftSpan) → ((j : ℕ) → j < s.len → s.from + j < shift_count I) → has_shift s r.0 k.0 ≡ true → (m : ℕ)
      → nursed_in (put (SetCare r k new) P) (Some s) m + bit (is_number (care_of P r.0 k.0) m)
      ≡ nursed_in P (Some s) m + bit (is_number (option_map (λ (a : NurseNo). a.0) new) m)
  nursed-moves s within h m =
      let there = shift-of s r.0 k.0 h in
      let low = there.low in
      let high = there.high in
      let i = k.0 - s.from in
      let place : s.from + (k.0 - s.from) ≡ k.0 = omega arith in
      let inside : k.0 - s.from < s.len = omega arith in
      let change = sum_below-but s.len (k.0 - s.from) (λ j. bit (is_number (care_of (put (SetCare r k new) P) s.room.0 (s.from + j)) m))
      (λ j. bit (is_number (care_of P s.room.0 (s.from + j)) m)) inside
      (λ j jh ne. ap (λ o. bit (is_number o m)) (care_of-other I P r k new s.room.0 (s.from + j) plan shift (within j jh) (λ same now. ne (omega arith)))) in
      let before : bit (is_number (care_of P s.room.0 (s.from + (k.0 - s.from))) m) ≡ bit (is_number (care_of P r.0 k.0) m) = rw (place, there.room) refl in
      let after : bit (is_number (care_of (put (SetCare r k new) P) s.room.0 (s.from + (k.0 - s.from))) m) ≡ bit (is_number (option_map (λ (a : NurseNo). a.0) new) m) =
      rw (place, there.room) (ap (λ o. bit (is_number o m)) (care_of-same I P r k new plan room shift)) in
      omega (arith, change, before, after)

  nursed-kept : (s : ShiftSpan) → ((j : ℕ) → j < s.len → s.from + j < shift_count I) → has_shift s r.0 k.0 ≡ false → (m : ℕ)
      → nursed_in (put (SetCare r k new) P) (Some s) m ≡ nursed_in P (Some s) m
  nursed-kept s within h m =
      sum_below-same s.len (λ j. bit (is_number (care_of (put (SetCare r k new) P) s.room.0 (s.from + j)) m)) (λ j. bit (is_number (care_of P s.room.0 (s.from + j)) m))
      (λ j jh. ap (λ o. bit (is_number o m)) (care_of-other I P r k new s.room.0 (s.from + j) plan shift (within j jh)
      (λ same now. absurd (let yes : has_shift s r.0 k.0 ≡ true = rw (eq-eqb s.room.0 r.0 same, le-leb s.from k.0 (omega arith), lt-ltb k.0 (s.from + s.len) (omega arith)) refl in
      let no : true ≡ false = sym yes ∙ h in cc))))

  within-days : (a : Admission) (n j : ℕ) → j < (shift_span_of I a n).len → (shift_span_of I a n).from + j < shift_count I
  within-days a n j h = omega arith

  -- who is there has a shift less of the old nurse, and one more of the new
  pub count-moves : (x : ℕ) → is_present I P r.0 (day_of k.0) x ≡ true → (m : ℕ)
      → count_of I (put (SetCare r k new) P) x m + bit (is_number (care_of P r.0 k.0) m)
      ≡ count_of I P x m + bit (is_number (option_map (λ (a : NurseNo). a.0) new) m)
  count-moves x there m = rw (shift_span-kept I P r k new x) (by_case (admission_of I P x) (person_of I x).length_of_stay there)
    where
      by_case : (o : Option Admission) (n : ℕ) → is_in o n r.0 (day_of k.0) ≡ true
          → nursed_in (put (SetCare r k new) P) (shift_span_in I o n) m + bit (is_number (care_of P r.0 k.0) m)
          ≡ nursed_in P (shift_span_in I o n) m + bit (is_number (option_map (λ (a : NurseNo). a.0) new) m)
      by_case None n h = absurd (let no : false ≡ true = h in cc)
      by_case (Some a) n h = nursed-moves (shift_span_of I a n) (within-days a n) (there-shift I a n r.0 k.0 shift ∙ h) m

  -- nobody else's counts change
  pub count-kept : (x : ℕ) → is_present I P r.0 (day_of k.0) x ≡ false → (m : ℕ) → count_of I (put (SetCare r k new) P) x m ≡ count_of I P x m
  count-kept x away m = rw (shift_span-kept I P r k new x) (by_case (admission_of I P x) (person_of I x).length_of_stay away)
    where
      by_case : (o : Option Admission) (n : ℕ) → is_in o n r.0 (day_of k.0) ≡ false
          → nursed_in (put (SetCare r k new) P) (shift_span_in I o n) m ≡ nursed_in P (shift_span_in I o n) m
      by_case None n h = refl
      by_case (Some a) n h = nursed-kept (shift_span_of I a n) (within-days a n) (there-shift I a n r.0 k.0 shift ∙ h) m
