-- Weak duality of care, person by person: numbers of the shifts, of which no nurse is spared more than a nurse is
-- worth, come to at most what the person pays.
use Rattle.std.proofs.Common.{◌≡◌, ℕ, zero, suc, ◌+◌, ◌-◌, ◌*◌, ◌<◌, ◌≤◌, refl, arith, sym, ◌∙◌, subst, Bool, true, false, List, [], ◌∷◌, inl, inr, Option, Some, None}
use Rattle.std.specs.Prelude.{if◌then◌else◌, ◌&&◌, min, is_none, is_some, map}
use Rattle.std.specs.List.{range_with_len, list_any}
use Rattle.std.proofs.lemmas.Bool.{cases_Bool, cases_eq, eq-eqb, eqb-true, ne_eqb, or_left, or_right}
use Rattle.ih_tables.specs.declared.drafts.Draft.{Draft}
use Rattle.ih_tables.specs.Sizes.{person_count, nurse_count, shift_count}
use Rattle.ih_tables.specs.Works.{max_load}
use Rattle.ih_tables.specs.Valid.{IsValid}
use Rattle.ih_plan.specs.Timetable.{Timetable, care_of}
use Rattle.ih_plan.specs.Sums.{sum_below, which_below, bit}
use Rattle.ih_plan.specs.Persons.{person_of}
use Rattle.ih_plan.specs.Presence.{Admission, admission_of, is_present, present, covers, day_of, room_of, shifts_of, skill_of, workload_of}
use Rattle.ih_plan.specs.Costs.{is_empty, is_number, nurse_for, not_working}
use Rattle.ih_plan.proofs.SumLemmas.{sum_below-same}
use Rattle.ih_plan.proofs.SumBounds.{sum_below-le_each, sum_below-add, sum_below-none, sum_below-swap}
use Rattle.ih_plan.proofs.ListedBelow.{has, has-which_below}
use Rattle.ih_plan.proofs.Spans.{span-inside}
use Rattle.ih_validate.specs.Members.{carer_of}
use Rattle.ih_validate.proofs.LoadLemmas.{admission-room}
use Rattle.ih_bound.specs.declared.prices.Rates.{Rates}
use Rattle.ih_bound.specs.Bounds.{IsFeasible}
use Rattle.ih_bound.specs.Tariffs.{Tariff}
use Rattle.ih_bound.specs.Paid.{care_price, shift_paid, care_paid}
use Rattle.ih_bound.proofs.SumLaws.{sum_below-one, sum_below-times}
use Rattle.ih_bound.proofs.RulesKept.{on-duty, has-nurse}

-- ---- who cares for whom

-- Nurse n is chosen for room r in shift k, works it, and cares there for person x.
pub record CaredBy (I : Draft) (P : Timetable) (x k r n : ℕ) : Type 0 where
  pub carer : carer_of I P k x ≡ Some n
  pub chosen : care_of P r k ≡ Some n
  pub known : n < nurse_count I
  pub works : is_some (max_load I n k) ≡ true

not_empty : (xs : List ℕ) (x : ℕ) → has x xs ≡ true → is_empty xs ≡ false
not_empty [] x e = absurd (let no : false ≡ true = e in cc)
not_empty (y ∷ ys) x e = refl

some-not_none : (o : Option ℕ) → is_none o ≡ false → is_some o ≡ true
some-not_none None e = absurd (let no : true ≡ false = e in cc)
some-not_none (Some n) e = refl

module _ (I : Draft) (P : Timetable) (valid : IsValid I) (feasible : IsFeasible I P) where
  occupied : (r d x : ℕ) → x < person_count I → is_present I P r d x ≡ true → is_empty (present I P r d) ≡ false
  unfolding present
  occupied r d x h there =
      not_empty (which_below (person_count I) (is_present I P r d)) x (has-which_below (person_count I) x (is_present I P r d) h ∙ there)

  -- who is there has a nurse
  pub cared : (x k : ℕ) (a : Admission) → x < person_count I → k < shift_count I → admission_of I P x ≡ Some a
      → covers a.day (person_of I x).length_of_stay (day_of k) ≡ true → (n : ℕ) × CaredBy I P x k a.room n
  cared x k a hx hk adm there =
      let room = admission-room I P x a valid feasible.plan adm in
      let here : is_present I P a.room (day_of k) x ≡ true = rw (adm, eq-eqb a.room a.room refl) there in
      let some = occupied a.room (day_of k) x hx here in
      let carer : carer_of I P k x ≡ care_of P a.room k = rw (adm, there) refl in
      by_case (care_of P a.room k) refl carer (rw some at (has-nurse I P feasible a.room k room hk)) (on-duty I P feasible a.room k room hk)
    where
      by_case : (o : Option ℕ) → care_of P a.room k ≡ o → carer_of I P k x ≡ o → (is_none o && true) ≡ false → not_working I k o ≡ false
          → (n : ℕ) × CaredBy I P x k a.room n
      by_case None chosen carer nurse duty = absurd (let no : true ≡ false = nurse in cc)
      by_case (Some n) chosen carer nurse duty = (
        n,
        record {
          carer = carer;
          chosen = chosen;
          known = feasible.plan.nursed a.room k n chosen;
          works = some-not_none (max_load I n k) duty;
        },
      )

-- ---- the numbers of the shifts

-- what care by nurse n in shift k costs person x
abbrev pub price_at : Draft → Rates → Tariff → Timetable → ℕ → ℕ → ℕ → ℕ
price_at I rates t P x n k = care_price I rates t (skill_of I P k x) (workload_of I P k x) k n

-- by how much the number of shift k is above that
abbrev pub above : Draft → Rates → Tariff → Timetable → ℕ → (ℕ → ℕ) → ℕ → ℕ → ℕ
above I rates t P x v n k = v k - price_at I rates t P x n k

-- the same where nurse n works the shift, and where nurse n cares for the person then
abbrev pub spared : Draft → Rates → Tariff → Timetable → ℕ → (ℕ → ℕ) → ℕ → ℕ → ℕ
spared I rates t P x v n k = if is_some (max_load I n k) then above I rates t P x v n k else 0

abbrev claimed : Draft → Rates → Tariff → Timetable → ℕ → (ℕ → ℕ) → ℕ → ℕ → ℕ
claimed I rates t P x v n k = if is_number (carer_of I P k x) n then above I rates t P x v n k else 0

-- person x sees nurse n
abbrev sees : Draft → Timetable → ℕ → ℕ → Bool
sees I P x n = list_any (λ o. is_number o n) (map (nurse_for P (room_of I P x)) (shifts_of I P x))

any-in_range : (f : ℕ → Option ℕ) (q : Option ℕ → Bool) (s len k : ℕ) → s ≤ k → k < s + len → q (f k) ≡ true → list_any q (map f (range_with_len s len)) ≡ true
any-in_range f q s zero k low high e = absurd (omega arith)
any-in_range f q s (suc n) k low high e = elim (cases_eq s k) [
  | inl here ↦ or_left (q (f s)) (list_any q (map f (range_with_len (s + 1) n))) (rw here e)
  | inr past ↦ or_right (q (f s)) (list_any q (map f (range_with_len (s + 1) n))) (any-in_range f q (s + 1) n k (omega arith) (omega arith) e)
]

if_le : (b c : Bool) (x : ℕ) → (b ≡ true → x ≤ (if c then x else 0)) → (if b then x else 0) ≤ (if c then x else 0)
if_le true c x h = h refl
if_le false c x h = omega arith

if_zero : (b : Bool) (x : ℕ) → (b ≡ true → x ≡ 0) → (if b then x else 0) ≡ 0
if_zero true x h = h refl
if_zero false x h = refl

module _ (I : Draft) (P : Timetable) (valid : IsValid I) (feasible : IsFeasible I P) (rates : Rates) (t : Tariff)
    (x : ℕ) (a : Admission) (hx : x < person_count I) (adm : admission_of I P x ≡ Some a)
    (v : ℕ → ℕ) (outside : (k : ℕ) → k < shift_count I → covers a.day (person_of I x).length_of_stay (day_of k) ≡ false → v k ≡ 0) where
  -- a shift's number is what is paid in it, and what the nurse who is there is spared
  one-shift : (k : ℕ) → k < shift_count I → v k ≤ shift_paid I rates t P x k + sum_below (nurse_count I) (λ n. claimed I rates t P x v n k)
  one-shift k hk = elim (cases_Bool (covers a.day (person_of I x).length_of_stay (day_of k))) [
    | inl there ↦ let c = cared I P valid feasible x k a hx hk adm there in by_nurse c.0 c.1
    | inr away ↦ omega (arith, outside k hk away)
  ]
    where
      by_nurse : (n : ℕ) → CaredBy I P x k a.room n → v k ≤ shift_paid I rates t P x k + sum_below (nurse_count I) (λ n. claimed I rates t P x v n k)
      by_nurse n c =
          let one = sum_below-one (nurse_count I) n (λ m. claimed I rates t P x v m k) c.known (λ i l ne. rw (c.carer, ne_eqb n i (λ e. ne (sym e))) refl) in
          let here : claimed I rates t P x v n k ≡ above I rates t P x v n k = rw (c.carer, eq-eqb n n refl) refl in
          let pays : shift_paid I rates t P x k ≡ price_at I rates t P x n k = rw c.carer refl in
          omega (arith, one, here, pays)

  -- who is seen in a counted shift is seen
  seen : (k n : ℕ) → k < shift_count I → covers a.day (person_of I x).length_of_stay (day_of k) ≡ true → is_number (care_of P a.room k) n ≡ true → sees I P x n ≡ true
  unfolding shifts_of
  seen k n hk there e =
      let inside = span-inside a.day (a.day + (person_of I x).length_of_stay) (day_of k) there in
      rw adm
      (any-in_range (nurse_for P (Some a.room)) (λ o. is_number o n) (3 * a.day) (3 * (min (a.day + (person_of I x).length_of_stay) I.days - a.day)) k (omega arith) (omega arith) e)

  claimed-spared : (n k : ℕ) → k < shift_count I → claimed I rates t P x v n k ≤ spared I rates t P x v n k
  claimed-spared n k hk = if_le (is_number (carer_of I P k x) n) (is_some (max_load I n k)) (above I rates t P x v n k) (λ e. elim (cases_Bool (covers a.day (person_of I x).length_of_stay (day_of k))) [
    | inl there ↦ let c = cared I P valid feasible x k a hx hk adm there in by_nurse c.0 c.1 e
    | inr away ↦ omega (arith, outside k hk away)
  ])
    where
      by_nurse : (m : ℕ) → CaredBy I P x k a.room m → is_number (carer_of I P k x) n ≡ true → above I rates t P x v n k ≤ (if is_some (max_load I n k) then above I rates t P x v n k else 0)
      by_nurse m c e =
          let same : m ≡ n = eqb-true m n (rw c.carer at e) in
          let works : is_some (max_load I n k) ≡ true = subst (λ (i : ℕ). is_some (max_load I i k) ≡ true) same c.works in
          rw works (omega arith)

  claimed-none : (n k : ℕ) → k < shift_count I → sees I P x n ≡ false → claimed I rates t P x v n k ≡ 0
  claimed-none n k hk unseen = if_zero (is_number (carer_of I P k x) n) (above I rates t P x v n k) (λ e. elim (cases_Bool (covers a.day (person_of I x).length_of_stay (day_of k))) [
    | inl there ↦ let c = cared I P valid feasible x k a hx hk adm there in
        let same : carer_of I P k x ≡ care_of P a.room k = c.1.carer ∙ sym c.1.chosen in
        let is_seen = seen k n hk there (rw same at e) in
        absurd (let no : true ≡ false = sym is_seen ∙ unseen in cc)
    | inr away ↦ omega (arith, outside k hk away)
  ])

  one-nurse : (n : ℕ) → sum_below (shift_count I) (spared I rates t P x v n) ≤ rates.nurse
      → sum_below (shift_count I) (claimed I rates t P x v n) ≤ rates.nurse * bit (sees I P x n)
  one-nurse n h = elim (cases_Bool (sees I P x n)) [
    | inl met ↦
        let less = sum_below-le_each (shift_count I) (claimed I rates t P x v n) (spared I rates t P x v n) (λ k l. claimed-spared n k l) in
        rw met (omega (arith, less, h))
    | inr unmet ↦
        let none = sum_below-same (shift_count I) (claimed I rates t P x v n) (λ k. 0) (λ k l. claimed-none n k l unmet) in
        rw unmet (omega (arith, none, sum_below-none (shift_count I)))
  ]

  -- numbers that spare no nurse more than a nurse is worth come to at most what the person pays for care
  pub care-duality : ((n : ℕ) → n < nurse_count I → sum_below (shift_count I) (spared I rates t P x v n) ≤ rates.nurse)
      → sum_below (shift_count I) v ≤ care_paid I rates t P x
  unfolding care_paid
  care-duality small =
      let K = shift_count I in
      let N = nurse_count I in
      let each = sum_below-le_each K v (λ k. shift_paid I rates t P x k + sum_below N (λ n. claimed I rates t P x v n k)) one-shift in
      let apart = sum_below-add K (shift_paid I rates t P x) (λ k. sum_below N (λ n. claimed I rates t P x v n k)) in
      let swap = sum_below-swap K N (λ k n. claimed I rates t P x v n k) in
      let nurses = sum_below-le_each N (λ n. sum_below K (claimed I rates t P x v n)) (λ n. rates.nurse * bit (sees I P x n)) (λ n l. one-nurse n (small n l)) in
      let count = sum_below-times N rates.nurse (λ n. bit (sees I P x n)) in
      omega (arith, each, apart, swap, nurses, count)
