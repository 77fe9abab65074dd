-- Missing skill and priced workload, person by person in place of room by room and nurse by nurse.
use Rattle.std.proofs.Common.{◌≡◌, ℕ, ◌+◌, ◌-◌, ◌*◌, ◌<◌, refl, arith, sym, ap, ◌∙◌, Bool, true, false, List, [], ◌∷◌, Option, Some, None}
use Rattle.std.specs.Prelude.{if◌then◌else◌, ◌&&◌, ◌==◌, map, sum_by}
use Rattle.std.proofs.lemmas.Bool.{eq-eqb, ne_eqb}
use Rattle.std.proofs.lemmas.List.Sums.{sum_by-cons}
use Rattle.ih_tables.specs.declared.drafts.Draft.{Draft}
use Rattle.ih_tables.specs.Sizes.{person_count, room_count, nurse_count, shift_count}
use Rattle.ih_tables.specs.Valid.{IsValid}
use Rattle.ih_plan.specs.Timetable.{Timetable, IsPlanOf, care_of}
use Rattle.ih_plan.specs.Sums.{sum_below}
use Rattle.ih_plan.specs.Persons.{person_of}
use Rattle.ih_plan.specs.Presence.{Admission, admission_of, is_in, is_present, present, covers, day_of, skill_of, workload_of}
use Rattle.ih_plan.specs.Costs.{is_number, skill_missing, skill_level, load_of}
use Rattle.ih_plan.specs.BillOf.{missing_skill, nurses_seen}
use Rattle.ih_plan.proofs.SumLemmas.{sum_below-same, sum_by-which_below}
use Rattle.ih_plan.proofs.SumBounds.{sum_below-add, sum_below-none}
use Rattle.ih_plan.proofs.TestLemmas.{if-none}
use Rattle.ih_validate.specs.Members.{carer_in, carer_of}
use Rattle.ih_validate.proofs.LoadLemmas.{admission-room, nurse_part, load-by_person}
use Rattle.ih_bound.specs.declared.prices.Rates.{Rates}
use Rattle.ih_bound.specs.Tariffs.{Tariff}
use Rattle.ih_bound.specs.Paid.{care_price_of, shift_paid, nurses_of, care_paid}
use Rattle.ih_bound.proofs.SumLaws.{sum_below-one, sum_below-times, sum_below-turn}

-- what is asked of the nurse of a person's room is asked of the person's nurse
by_room : (I : Draft) (P : Timetable) (g : Option ℕ → ℕ) (k len : ℕ) (o : Option Admission) → g None ≡ 0 → ((a : Admission) → o ≡ Some a → a.room < room_count I)
    → sum_below (room_count I) (λ r. if is_in o len r (day_of k) then g (care_of P r k) else 0) ≡ g (carer_in P o len k)
by_room I P g k len None none h = sum_below-none (room_count I) ∙ sym none
by_room I P g k len (Some a) none h =
    sum_below-one (room_count I) a.room (λ r. if (a.room == r) && covers a.day len (day_of k) then g (care_of P r k) else 0) (h a refl)
    (λ i l ne. rw (ne_eqb a.room i (λ e. ne (sym e))) refl)
    ∙ rw (eq-eqb a.room a.room refl) (by_case (covers a.day len (day_of k)))
  where
    by_case : (b : Bool) → (if b then g (care_of P a.room k) else 0) ≡ g (if b then care_of P a.room k else None)
    by_case true = refl
    by_case false = sym none

-- ---- missing skill

abbrev skill_gap : Draft → ℕ → Option ℕ → ℕ
skill_gap I skill None = 0
skill_gap I skill (Some n) = skill - skill_level I n

sum_by-mapped : (f g : ℕ → ℕ) (xs : List ℕ) → sum_by f (map g xs) ≡ sum_by (λ x. f (g x)) xs
sum_by-mapped f g [] = refl
sum_by-mapped f g (x ∷ xs) = sum_by-cons f (g x) (map g xs) ∙ ap (λ n. f (g x) + n) (sum_by-mapped f g xs) ∙ sym (sum_by-cons (λ x. f (g x)) x xs)

room-skill : (I : Draft) (P : Timetable) (r k : ℕ) (o : Option ℕ) → skill_missing I o (map (skill_of I P k) (present I P r (day_of k)))
    ≡ sum_below (person_count I) (λ x. if is_present I P r (day_of k) x then skill_gap I (skill_of I P k x) o else 0)
unfolding present
room-skill I P r k None =
    sym (sum_below-same (person_count I) (λ x. if is_present I P r (day_of k) x then 0 else 0) (λ x. 0) (λ x l. if-none (is_present I P r (day_of k) x)) ∙ sum_below-none (person_count I))
room-skill I P r k (Some n) =
    sum_by-mapped (λ s. s - skill_level I n) (skill_of I P k) (present I P r (day_of k))
    ∙ sum_by-which_below (λ x. skill_of I P k x - skill_level I n) (person_count I) (is_present I P r (day_of k))

module _ (I : Draft) (P : Timetable) (valid : IsValid I) (plan : IsPlanOf I P) where
  missing-by_person : missing_skill I P
      ≡ sum_below (person_count I) (λ x. sum_below (shift_count I) (λ k. skill_gap I (skill_of I P k x) (carer_of I P k x)))
  unfolding missing_skill
  missing-by_person =
      let part : ℕ → ℕ → ℕ → ℕ = λ r k x. if is_present I P r (day_of k) x then skill_gap I (skill_of I P k x) (care_of P r k) else 0 in
      sum_below-same (room_count I)
      (λ r. sum_below (shift_count I) (λ k. skill_missing I (care_of P r k) (map (skill_of I P k) (present I P r (day_of k)))))
      (λ r. sum_below (shift_count I) (λ k. sum_below (person_count I) (part r k)))
      (λ r l. sum_below-same (shift_count I)
      (λ k. skill_missing I (care_of P r k) (map (skill_of I P k) (present I P r (day_of k))))
      (λ k. sum_below (person_count I) (part r k)) (λ k h. room-skill I P r k (care_of P r k)))
      ∙ sum_below-turn (room_count I) (shift_count I) (person_count I) part
      ∙ sum_below-same (person_count I)
      (λ x. sum_below (shift_count I) (λ k. sum_below (room_count I) (λ r. part r k x)))
      (λ x. sum_below (shift_count I) (λ k. skill_gap I (skill_of I P k x) (carer_of I P k x)))
      (λ x l. sum_below-same (shift_count I) (λ k. sum_below (room_count I) (λ r. part r k x)) (λ k. skill_gap I (skill_of I P k x) (carer_of I P k x))
      (λ k h. by_room I P (skill_gap I (skill_of I P k x)) k (person_of I x).length_of_stay (admission_of I P x) refl (λ a e. admission-room I P x a valid plan e)))

  -- ---- workload

  abbrev lent : Tariff → ℕ → ℕ → Option ℕ → ℕ
  lent t load k None = 0
  lent t load k (Some n) = t.work n k * load

  carer-known : (k x n : ℕ) → carer_of I P k x ≡ Some n → n < nurse_count I
  carer-known k x n e = by_admission (admission_of I P x) e
    where
      by_stay : (b : Bool) (r : ℕ) → (if b then care_of P r k else None) ≡ Some n → n < nurse_count I
      by_stay true r e = plan.nursed r k n e
      by_stay false r e = absurd (let no : None ≡ Some n = e in cc)

      by_admission : (o : Option Admission) → carer_in P o (person_of I x).length_of_stay k ≡ Some n → n < nurse_count I
      by_admission None e = absurd (let no : None ≡ Some n = e in cc)
      by_admission (Some a) e = by_stay (covers a.day (person_of I x).length_of_stay (day_of k)) a.room e

  one-carer : (t : Tariff) (load k : ℕ) (o : Option ℕ) → ((n : ℕ) → o ≡ Some n → n < nurse_count I)
      → sum_below (nurse_count I) (λ n. t.work n k * (if is_number o n then load else 0)) ≡ lent t load k o
  one-carer t load k None known = sum_below-same (nurse_count I) (λ n. t.work n k * 0) (λ n. 0) (λ n l. omega arith) ∙ sum_below-none (nurse_count I)
  one-carer t load k (Some m) known =
      sum_below-one (nurse_count I) m (λ n. t.work n k * (if m == n then load else 0)) (known m refl)
      (λ i l ne. rw (ne_eqb m i (λ e. ne (sym e))) (omega arith))
      ∙ rw (eq-eqb m m refl) refl

  lent-by_person : (t : Tariff) → sum_below (nurse_count I) (λ n. sum_below (shift_count I) (λ k. t.work n k * load_of I P n k))
      ≡ sum_below (person_count I) (λ x. sum_below (shift_count I) (λ k. lent t (workload_of I P k x) k (carer_of I P k x)))
  lent-by_person t =
      let part : ℕ → ℕ → ℕ → ℕ = λ n k x. t.work n k * nurse_part I P n k x in
      sum_below-same (nurse_count I)
      (λ n. sum_below (shift_count I) (λ k. t.work n k * load_of I P n k))
      (λ n. sum_below (shift_count I) (λ k. sum_below (person_count I) (part n k)))
      (λ n l. sum_below-same (shift_count I) (λ k. t.work n k * load_of I P n k) (λ k. sum_below (person_count I) (part n k))
      (λ k h. rw (← load-by_person I P n k valid plan) (sym (sum_below-times (person_count I) (t.work n k) (nurse_part I P n k)))))
      ∙ sum_below-turn (nurse_count I) (shift_count I) (person_count I) part
      ∙ sum_below-same (person_count I)
      (λ x. sum_below (shift_count I) (λ k. sum_below (nurse_count I) (λ n. part n k x)))
      (λ x. sum_below (shift_count I) (λ k. lent t (workload_of I P k x) k (carer_of I P k x)))
      (λ x l. sum_below-same (shift_count I) (λ k. sum_below (nurse_count I) (λ n. part n k x)) (λ k. lent t (workload_of I P k x) k (carer_of I P k x))
      (λ k h. one-carer t (workload_of I P k x) k (carer_of I P k x) (λ n e. carer-known k x n e)))

  -- ---- care

  two-parts : (rates : Rates) (t : Tariff) (skill load k : ℕ) (o : Option ℕ) → care_price_of I rates t skill load k o ≡ rates.skill * skill_gap I skill o + lent t load k o
  two-parts rates t skill load k None = omega arith
  two-parts rates t skill load k (Some n) = refl

  person-care : (rates : Rates) (t : Tariff) (x : ℕ) → care_paid I rates t P x
      ≡ rates.skill * sum_below (shift_count I) (λ k. skill_gap I (skill_of I P k x) (carer_of I P k x))
      + sum_below (shift_count I) (λ k. lent t (workload_of I P k x) k (carer_of I P k x)) + rates.nurse * nurses_of I P x
  unfolding care_paid
  person-care rates t x =
      let gap : ℕ → ℕ = λ k. skill_gap I (skill_of I P k x) (carer_of I P k x) in
      let load : ℕ → ℕ = λ k. lent t (workload_of I P k x) k (carer_of I P k x) in
      let apart = sum_below-same (shift_count I) (shift_paid I rates t P x) (λ k. rates.skill * gap k + load k)
      (λ k l. two-parts rates t (skill_of I P k x) (workload_of I P k x) k (carer_of I P k x)) in
      let both = sum_below-add (shift_count I) (λ k. rates.skill * gap k) load in
      let times = sum_below-times (shift_count I) rates.skill gap in
      omega (arith, apart, both, times)

  -- what all persons pay for care is what missing skill and nurses seen are worth, and the price of all workload
  pub care-by_person : (rates : Rates) (t : Tariff) → sum_below (person_count I) (care_paid I rates t P)
      ≡ rates.skill * missing_skill I P + sum_below (nurse_count I) (λ n. sum_below (shift_count I) (λ k. t.work n k * load_of I P n k)) + rates.nurse * nurses_seen I P
  unfolding nurses_seen
  care-by_person rates t =
      let X = person_count I in
      let gap : ℕ → ℕ = λ x. sum_below (shift_count I) (λ k. skill_gap I (skill_of I P k x) (carer_of I P k x)) in
      let load : ℕ → ℕ = λ x. sum_below (shift_count I) (λ k. lent t (workload_of I P k x) k (carer_of I P k x)) in
      let each = sum_below-same X (care_paid I rates t P) (λ x. rates.skill * gap x + load x + rates.nurse * nurses_of I P x) (λ x l. person-care rates t x) in
      let apart = sum_below-add X (λ x. rates.skill * gap x + load x) (λ x. rates.nurse * nurses_of I P x) in
      let both = sum_below-add X (λ x. rates.skill * gap x) load in
      let skills = sum_below-times X rates.skill gap in
      let nurses = sum_below-times X rates.nurse (nurses_of I P) in
      let missing : missing_skill I P ≡ sum_below X gap = missing-by_person in
      let loads : sum_below (nurse_count I) (λ n. sum_below (shift_count I) (λ k. t.work n k * load_of I P n k)) ≡ sum_below X load = lent-by_person t in
      rw (missing, loads) (omega (arith, each, apart, both, skills, nurses))
