-- What a stay adds to the table of loads, shift by shift.
use Rattle.std.proofs.Common.{◌≡◌, ℕ, ◌+◌, ◌-◌, ◌*◌, ◌/◌, ◌<◌, ◌≤◌, refl, arith, sym, false, inl, inr, List, Option}
use Rattle.std.specs.Prelude.{if◌then◌else◌, nat_lt, nat_le, min, slice_index}
use Rattle.std.proofs.lemmas.Bool.{cases_eq, cases_lt, eq-eqb, ne_eqb, lt-ltb, le-ltb, lt-leb, and_right}
use Rattle.ih_tables.specs.declared.drafts.Draft.{Draft}
use Rattle.ih_tables.specs.declared.ids.NurseNo.{NurseNo}
use Rattle.ih_tables.specs.Sizes.{nurse_count, shift_count}
use Rattle.ih_plan.specs.declared.moves.Placement.{Placement}
use Rattle.ih_plan.specs.Timetable.{Timetable, choice_of, care_of}
use Rattle.ih_plan.specs.Persons.{person_of}
use Rattle.ih_plan.specs.Presence.{covers, day_of, end_of}
use Rattle.ih_plan.specs.Costs.{is_number}
use Rattle.ih_plan.proofs.TestLemmas.{if-none}
use Rattle.ih_nurses.specs.declared.loads.NurseLoad.{NurseLoad}
use Rattle.ih_nurses.specs.Loads.{IsTable, load_at, share, stay_load}
use Rattle.ih_plan.proofs.Spans.{shift-covered}

covers-before : (a n k : ℕ) → k < 3 * a → covers a n (day_of k) ≡ false
covers-before a n k h =
    let below : k / 3 < a = omega arith in
    rw (lt-leb a (k / 3) below) refl

covers-after : (a n days k : ℕ) → 3 * min (a + n) days ≤ k → k < 3 * days → covers a n (day_of k) ≡ false
covers-after a n days k low high =
    let above : a + n ≤ k / 3 = omega arith in
    rw (le-ltb (k / 3) (a + n) above) (and_right (nat_le a (k / 3)) false refl)

-- shift k is one of the stay, and this is its nurse and its load
pub record IsStayShift (I : Draft) (P : Timetable) (p : ℕ) (at : Placement) (k load : ℕ) (nurse : Option NurseNo) : Type 0 where
  pub low : 3 * at.day.0 ≤ k
  pub high : k < 3 * end_of I p at
  pub nurse_is : nurse ≡ choice_of P at.room.0 k
  pub load_is : load ≡ slice_index (person_of I p).workload (k - 3 * at.day.0)

pub stay-shift : {I : Draft} {P : Timetable} {p : ℕ} {at : Placement} {k end load : ℕ} {nurse : Option NurseNo} → 3 * at.day.0 ≤ k → k < 3 * end → end ≡ end_of I p at
    → nurse ≡ choice_of P at.room.0 k → load ≡ slice_index (person_of I p).workload (k - 3 * at.day.0) → IsStayShift I P p at k load nurse
stay-shift low high end nurse load = record { low = low; high = omega arith; nurse_is = nurse; load_is = load }

module _ (I : Draft) (P : Timetable) (p : ℕ) (at : Placement) where
  outside : (m j : ℕ) → covers at.day.0 (person_of I p).length_of_stay (day_of j) ≡ false → stay_load I P p at m j ≡ 0
  outside m j e = rw e (if-none (is_number (care_of P at.room.0 j) m))

  -- what the stay gives in the shifts before k
  abbrev pub given_before : ℕ → ℕ → ℕ → ℕ
  given_before k m j = if nat_lt j k then stay_load I P p at m j else 0

  pub given-none : (m j : ℕ) → given_before (3 * at.day.0) m j ≡ 0
  given-none m j = elim (cases_lt j (3 * at.day.0)) [
    | inl below ↦ rw (lt-ltb j (3 * at.day.0) below) (outside m j (covers-before at.day.0 (person_of I p).length_of_stay j below))
    | inr above ↦ rw (le-ltb j (3 * at.day.0) above) refl
  ]

  pub given-all : (m j : ℕ) → j < shift_count I → given_before (3 * end_of I p at) m j ≡ stay_load I P p at m j
  given-all m j jh = elim (cases_lt j (3 * end_of I p at)) [
    | inl below ↦ rw (lt-ltb j (3 * end_of I p at) below) refl
    | inr above ↦
        rw (le-ltb j (3 * end_of I p at) above)
        (sym (outside m j (covers-after at.day.0 (person_of I p).length_of_stay I.days j above jh)))
  ]

  -- shift k gives its share
  module _ {k load : ℕ} {nurse : Option NurseNo} (now : IsStayShift I P p at k load nurse) where
    pub share-stay : (m : ℕ) → share nurse k load m k ≡ stay_load I P p at m k
    share-stay m = rw (now.nurse_is, now.load_is, eq-eqb k k refl, shift-covered at.day.0 (person_of I p).length_of_stay I.days k now.low now.high) refl

    pub given-more : (m j : ℕ) → given_before (k + 1) m j ≡ given_before k m j + share nurse k load m j
    given-more m j = elim (cases_eq j k) [
      | inl same ↦ rw (same, lt-ltb k (k + 1) (omega arith), le-ltb k k (omega arith)) (let s = share-stay m in omega arith)
      | inr other ↦ rw (ne_eqb j k other) (elim (cases_lt j k) [
        | inl below ↦ rw (lt-ltb j k below, lt-ltb j (k + 1) (omega arith)) (omega arith)
        | inr above ↦ rw (le-ltb j k above, le-ltb j (k + 1) (omega arith)) (omega arith)
      ])
    ]

-- the table has the stay's shifts before k
pub record AreAdded (I : Draft) (P : Timetable) (p : ℕ) (at : Placement) (old loads : List NurseLoad) (k : ℕ) : Type 0 where
  pub table : IsTable I loads
  pub each : (m j : ℕ) → m < nurse_count I → j < shift_count I → load_at I loads m j ≡ load_at I old m j + given_before I P p at k m j

-- the table is without the stay's shifts before k
pub record AreTaken (I : Draft) (P : Timetable) (p : ℕ) (at : Placement) (old loads : List NurseLoad) (k : ℕ) : Type 0 where
  pub table : IsTable I loads
  pub each : (m j : ℕ) → m < nurse_count I → j < shift_count I → load_at I loads m j + given_before I P p at k m j ≡ load_at I old m j

module _ {I : Draft} {P : Timetable} {p : ℕ} {at : Placement} {old : List NurseLoad} where
  pub added-none : IsTable I old → AreAdded I P p at old old (3 * at.day.0)
  added-none table = record { table = table; each = λ m j mh jh. let none = given-none I P p at m j in omega arith }

  pub taken-none : IsTable I old → AreTaken I P p at old old (3 * at.day.0)
  taken-none table = record { table = table; each = λ m j mh jh. let none = given-none I P p at m j in omega arith }

module _ {I : Draft} {P : Timetable} {p : ℕ} {at : Placement} {old loads : List NurseLoad} where
  pub added-more : {k load : ℕ} {nurse : Option NurseNo} → AreAdded I P p at old loads k → IsStayShift I P p at k load nurse → {new : List NurseLoad} → IsTable I new
      → ((m j : ℕ) → m < nurse_count I → j < shift_count I → load_at I new m j ≡ load_at I loads m j + share nurse k load m j) → AreAdded I P p at old new (k + 1)
  added-more {k} {load} {nurse} so_far now {new} table each = record {
    table = table;
    each = λ m j mh jh. omega (arith, given-more I P p at now m j, so_far.each m j mh jh, each m j mh jh);
  }

  pub added-all : {k end : ℕ} → k ≡ 3 * end → end ≡ end_of I p at → AreAdded I P p at old loads k
      → (m j : ℕ) → m < nurse_count I → j < shift_count I → load_at I loads m j ≡ load_at I old m j + stay_load I P p at m j
  added-all {k} {end} whole is so_far m j mh jh =
      let all : k ≡ 3 * end_of I p at = omega arith in
      omega (arith, given-all I P p at m j jh, (rw all at so_far).each m j mh jh)

  -- the number that is added to is as it was
  pub added-fits : {k : ℕ} → AreAdded I P p at old loads k → k < shift_count I → (m : ℕ) → m < nurse_count I → load_at I loads m k ≡ load_at I old m k
  added-fits {k} so_far kh m mh =
      let each = so_far.each m k mh kh in
      let none : given_before I P p at k m k ≡ 0 = rw (le-ltb k k (omega arith)) refl in
      omega arith

  pub taken-more : {k load : ℕ} {nurse : Option NurseNo} → AreTaken I P p at old loads k → IsStayShift I P p at k load nurse → {new : List NurseLoad} → IsTable I new
      → ((m j : ℕ) → m < nurse_count I → j < shift_count I → load_at I new m j + share nurse k load m j ≡ load_at I loads m j) → AreTaken I P p at old new (k + 1)
  taken-more {k} {load} {nurse} so_far now {new} table each = record {
    table = table;
    each = λ m j mh jh. omega (arith, given-more I P p at now m j, so_far.each m j mh jh, each m j mh jh);
  }

  pub taken-all : {k end : ℕ} → k ≡ 3 * end → end ≡ end_of I p at → AreTaken I P p at old loads k
      → (m j : ℕ) → m < nurse_count I → j < shift_count I → load_at I loads m j + stay_load I P p at m j ≡ load_at I old m j
  taken-all {k} {end} whole is so_far m j mh jh =
      let all : k ≡ 3 * end_of I p at = omega arith in
      omega (arith, given-all I P p at m j jh, (rw all at so_far).each m j mh jh)

  -- there is enough to take from
  pub taken-enough : {k load : ℕ} {nurse : Option NurseNo} → AreTaken I P p at old loads k → IsStayShift I P p at k load nurse → k < shift_count I
      → ((m j : ℕ) → m < nurse_count I → j < shift_count I → stay_load I P p at m j ≤ load_at I old m j)
      → (m : ℕ) → m < nurse_count I → share nurse k load m k ≤ load_at I loads m k
  taken-enough {k} {load} {nurse} so_far now kh enough m mh =
      let each = so_far.each m k mh kh in
      let none : given_before I P p at k m k ≡ 0 = rw (le-ltb k k (omega arith)) refl in
      let here = share-stay I P p at now m in
      let most = enough m k mh kh in
      omega arith
