-- Every number of a timetable's bill is at most 10^11, and so is every change of one.
use Rattle.std.proofs.Common.{◌≡◌, ℕ, zero, suc, ◌-◌, ◌*◌, ◌<◌, ◌≤◌, ◌^◌, refl, arith, Bool, List, [], ◌∷◌, length, Option, Some, None, pos, ℤ}
use Rattle.std.specs.Prelude.{◌&&◌, not, is_none, slice_get, slice_index, map, ◌≤ℤ◌, ◌-ℤ◌, neg_ℤ}
use Rattle.std.specs.Option.{option_map_or}
use Rattle.std.specs.List.{list_any}
use Rattle.std.proofs.lemmas.Nat.{mul-le}
use Rattle.std.proofs.lemmas.Int.{ints}
use Rattle.std.proofs.lemmas.List.Sums.{sum_by-cons}
use Rattle.ih_tables.specs.declared.drafts.Draft.{Draft}
use Rattle.ih_tables.specs.declared.drafts.Patient.{Patient}
use Rattle.ih_tables.specs.declared.bills.Bill.{Bill}
use Rattle.ih_tables.specs.Bills.{at, IsWithin}
use Rattle.ih_tables.specs.Sizes.{patient_count, person_count, room_count, surgeon_count, theatre_count, nurse_count, shift_count}
use Rattle.ih_tables.specs.Valid.{IsValid}
use Rattle.ih_tables.proofs.BillLemmas.{at-listed}
use Rattle.ih_plan.specs.declared.moves.Placement.{Placement}
use Rattle.ih_plan.specs.Timetable.{Timetable, IsPlanOf, IsPlacement, stay_of, care_of}
use Rattle.ih_plan.specs.Sums.{bit, sum_below, count_below, greatest}
use Rattle.ih_plan.specs.Persons.{person_of}
use Rattle.ih_plan.specs.Presence.{present, is_present, day_of, skill_of, entry_of, room_of, shifts_of}
use Rattle.ih_plan.specs.Costs.{of_patient, in_bad_room, outside_window, genders_differ, not_working, capacity_of, over_patients, over_room_days, over_room_shifts, delay, ages, age_spread, skill_missing, skill_level, distinct_nurses, theatres_used, nurse_for, is_number, is_empty, operated, operated_by, theatre_of}
use Rattle.ih_plan.specs.BillOf.{bill_of, change_of_bill, gender_mixes, bad_rooms, surgeon_overtime, theatre_overtime, mandatory_left_out, outside_windows, over_capacity, nurses_off, uncovered, mixed_ages, missing_skill, nurses_seen, overloads, open_theatres, transfers, delays, optional_left_out}
use Rattle.ih_plan.proofs.SumLemmas.{sum_below-le, length-which_below}
use Rattle.ih_plan.proofs.Overtime.{of-person, entry-most, surgeon_overtime-most, theatre_overtime-most, overloads-small}
use Rattle.ih_plan.proofs.TestLemmas.{bit-most}

-- ---- sums of bounded numbers

pub count-most : (n : ℕ) (p : ℕ → Bool) → count_below n p ≤ n
count-most n p = let all = sum_below-le n 1 (λ i. bit (p i)) (λ i h. bit-most (p i)) in omega (arith, all)

pub rows-most : (m n b : ℕ) (f : ℕ → ℕ → ℕ) → ((i j : ℕ) → j < n → f i j ≤ b) → sum_below m (λ i. sum_below n (λ j. f i j)) ≤ m * (n * b)
rows-most m n b f h = sum_below-le m (n * b) (λ i. sum_below n (λ j. f i j)) (λ i l. sum_below-le n b (f i) (λ j k. h i j k))

patients-most : (I : Draft) (P : Timetable) (b : ℕ) (f : Patient → Option Placement → ℕ) → ((p : ℕ) (a : Patient) → f a (stay_of P p) ≤ b) → over_patients I P f ≤ patient_count I * b
patients-most I P b f h = sum_below-le (patient_count I) b (λ p. of_patient I p (λ a. f a (stay_of P p))) (λ p l. by_case p (slice_get I.patients p))
  where
    by_case : (p : ℕ) (o : Option Patient) → option_map_or (λ a. f a (stay_of P p)) o 0 ≤ b
    by_case p None = omega arith
    by_case p (Some a) = h p a

-- ---- persons

present-most : (I : Draft) (P : Timetable) (r d : ℕ) → length (present I P r d) ≤ person_count I
unfolding present
present-most I P r d =
    let len = length-which_below (person_count I) (is_present I P r d) in
    omega (arith, len, count-most (person_count I) (is_present I P r d))

module _ (I : Draft) (valid : IsValid I) where
  pub few-patients : patient_count I ≤ 2048
  few-patients = valid.patients.len.most

  pub few-persons : person_count I ≤ 2560
  few-persons = let one = valid.patients.len.most in let two = valid.occupants.len.most in omega arith

  pub few-days : I.days ≤ 56
  few-days = valid.days.most

  age-most : (x : ℕ) → (person_of I x).age_group ≤ 64
  age-most x = of-person I (λ p. p.age_group ≤ 64) x valid (omega arith) (λ a h. let age = h.age in omega (arith, age, few)) (λ o h. let age = h.age in omega (arith, age, few))
    where
      few : length I.age_groups ≤ 64
      few = valid.ages.len.most

  skill-most : (x j : ℕ) → slice_index (person_of I x).skill j ≤ 1000
  skill-most x j =
      of-person I (λ p. slice_index p.skill j ≤ 1000) x valid (omega arith) (λ a h. entry-most a.skill_level_required 1000 j h.skill.small)
      (λ o h. entry-most o.skill_level_required 1000 j h.skill.small)

  greatest-most : (xs : List ℕ) → greatest (ages I xs) ≤ 64
  unfolding greatest
  greatest-most [] = omega arith
  greatest-most (x ∷ xs) = omega (arith, age-most x, greatest-most xs)

  spread-most : (xs : List ℕ) → age_spread I xs ≤ 64
  spread-most xs = omega (arith, greatest-most xs)

  missing-most : (n : Option ℕ) (k : ℕ) (P : Timetable) (xs : List ℕ) → skill_missing I n (map (skill_of I P k) xs) ≤ length xs * 1000
  missing-most None k P xs = omega arith
  missing-most (Some n) k P [] = omega arith
  missing-most (Some n) k P (x ∷ xs) =
      let first = skill-most x (entry_of I P x k) in
      let rest = missing-most (Some n) k P xs in
      let split = sum_by-cons (λ s. s - skill_level I n) (skill_of I P k x) (map (skill_of I P k) xs) in
      omega (arith, first, rest, split)

-- ---- the seventeen numbers

-- each number of a bill is a count of at most 10^11
pub record AreCounts (b : Bill) : Type 0 where
  pub v : (k : ℕ) → k < 9 → (pos 0 ≤ℤ at b.v k) × (at b.v k ≤ℤ pos (10 ^ 11))
  pub s : (k : ℕ) → k < 8 → (pos 0 ≤ℤ at b.s k) × (at b.s k ≤ℤ pos (10 ^ 11))

large : {x most : ℕ} → x ≤ most → most ≤ 10 ^ 11 → x ≤ 10 ^ 11
large h few = omega (arith, h, few)

count-in : (x : ℕ) → x ≤ 10 ^ 11 → (pos 0 ≤ℤ pos x) × (pos x ≤ℤ pos (10 ^ 11))
count-in x h = (omega (arith, ints), omega (arith, ints))

module _ (I : Draft) (P : Timetable) (valid : IsValid I) where
  pub room-days-most : (b : ℕ) (f : ℕ → List ℕ → ℕ) → ((r : ℕ) (xs : List ℕ) → length xs ≤ person_count I → f r xs ≤ b) → over_room_days I P f ≤ 128 * (56 * b)
  room-days-most b f h =
      let all = rows-most (room_count I) I.days b (λ r d. f r (present I P r d)) (λ r d l. h r (present I P r d) (present-most I P r d)) in
      let days = mul-le I.days b 56 b (few-days I valid) (omega arith) in
      let rooms = mul-le (room_count I) (I.days * b) 128 (56 * b) valid.rooms.len.most days in
      omega (arith, all, rooms)

  room-shifts-most : (b : ℕ) (f : ℕ → Option ℕ → List ℕ → ℕ) → ((k : ℕ) (n : Option ℕ) (r : ℕ) → f k n (present I P r (day_of k)) ≤ b) → over_room_shifts I P f ≤ 128 * (168 * b)
  room-shifts-most b f h =
      let all = rows-most (room_count I) (shift_count I) b (λ r k. f k (care_of P r k) (present I P r (day_of k))) (λ r k l. h k (care_of P r k) r) in
      let short : shift_count I ≤ 168 = omega (arith, few-days I valid) in
      let shifts = mul-le (shift_count I) b 168 b short (omega arith) in
      let rooms = mul-le (room_count I) (shift_count I * b) 128 (168 * b) valid.rooms.len.most shifts in
      omega (arith, all, rooms)

  each-patient : (b : ℕ) (f : Patient → Option Placement → ℕ) → ((p : ℕ) (a : Patient) → f a (stay_of P p) ≤ b) → over_patients I P f ≤ 2048 * b
  each-patient b f h =
      let all = patients-most I P b f h in
      let few = mul-le (patient_count I) b 2048 b (few-patients I valid) (omega arith) in
      omega (arith, all, few)

  missing-small : missing_skill I P ≤ 10 ^ 11
  unfolding missing_skill
  missing-small =
      let all = room-shifts-most 2560000 (λ k n xs. skill_missing I n (map (skill_of I P k) xs))
      (λ k n r.
      let one = missing-most I valid n k P (present I P r (day_of k)) in
      let len = present-most I P r (day_of k) in
      omega (arith, one, len, few-persons I valid)) in
      omega (arith, all)

  pub nurses_seen-few : nurses_seen I P ≤ 1310720
  unfolding nurses_seen
  nurses_seen-few =
      let all = sum_below-le (person_count I) (nurse_count I) (λ x. distinct_nurses I (map (nurse_for P (room_of I P x)) (shifts_of I P x)))
      (λ x l. count-most (nurse_count I) (λ n. list_any (λ o. is_number o n) (map (nurse_for P (room_of I P x)) (shifts_of I P x)))) in
      let few = mul-le (person_count I) (nurse_count I) 2560 512 (few-persons I valid) valid.nurses.len.most in
      omega (arith, all, few)

  pub open_theatres-few : open_theatres I P ≤ 3584
  unfolding open_theatres
  open_theatres-few =
      let all = sum_below-le (theatre_count I) I.days (λ t. count_below I.days (λ d. not (is_empty (operated I P t d))))
      (λ t l. count-most I.days (λ d. not (is_empty (operated I P t d)))) in
      let few = mul-le (theatre_count I) I.days 64 56 valid.theatres.len.most (few-days I valid) in
      omega (arith, all, few)

  pub transfers-few : transfers I P ≤ 458752
  unfolding transfers
  transfers-few =
      let all = rows-most (surgeon_count I) I.days (theatre_count I) (λ s d. theatres_used I (map (theatre_of P) (operated_by I P s d)) - 1)
      (λ s d l. less-most (theatre_count I) (λ t. list_any (λ o. is_number o t) (map (theatre_of P) (operated_by I P s d)))) in
      let days = mul-le I.days (theatre_count I) 56 64 (few-days I valid) valid.theatres.len.most in
      let few = mul-le (surgeon_count I) (I.days * theatre_count I) 128 (56 * 64) valid.surgeons.len.most days in
      omega (arith, all, few)
    where
      less-most : (n : ℕ) (p : ℕ → Bool) → count_below n p - 1 ≤ n
      less-most n p = omega (arith, count-most n p)

  pub delays-few : IsPlanOf I P → delays I P ≤ 114688
  unfolding delays
  delays-few plan = let all = each-patient 56 delay (λ p a. by_case a (stay_of P p) (plan.placed p)) in omega (arith, all)
    where
      by_case : (a : Patient) (o : Option Placement) → ((at : Placement) → o ≡ Some at → IsPlacement I at) → delay a o ≤ 56
      by_case a None h = omega arith
      by_case a (Some x) h = let day = (h x refl).day in omega (arith, day, few-days I valid)

  pub surgeon_overtime-few : surgeon_overtime I P ≤ 204800000
  surgeon_overtime-few = omega (arith, surgeon_overtime-most I P valid, few-patients I valid)

  pub theatre_overtime-few : theatre_overtime I P ≤ 204800000
  theatre_overtime-few = omega (arith, theatre_overtime-most I P valid, few-patients I valid)

  days-small : (b : ℕ) (f : ℕ → List ℕ → ℕ) → b ≤ 2560 → ((r : ℕ) (xs : List ℕ) → length xs ≤ person_count I → f r xs ≤ b) → over_room_days I P f ≤ 10 ^ 11
  days-small b f l h = omega (arith, room-days-most b f h)

  capacity-small : over_capacity I P ≤ 10 ^ 11
  unfolding over_capacity
  capacity-small = days-small 2560 (λ r xs. length xs - capacity_of I r) (omega arith) (λ r xs h. omega (arith, h, few-persons I valid))

  pub bits-few : (f : ℕ → Option ℕ → List ℕ → Bool) → over_room_shifts I P (λ k n xs. bit (f k n xs)) ≤ 21504
  bits-few f =
      let all = room-shifts-most 1 (λ k n xs. bit (f k n xs)) (λ k n r. bit-most (f k n (present I P r (day_of k)))) in
      omega (arith, all)

  pub patients-few : (f : Patient → Option Placement → Bool) → over_patients I P (λ a stay. bit (f a stay)) ≤ 2048
  patients-few f =
      let all = each-patient 1 (λ a stay. bit (f a stay)) (λ p a. bit-most (f a (stay_of P p))) in
      omega (arith, all)

  module _ (plan : IsPlanOf I P) where
    rules-in : (k : ℕ) → k < 9 → (pos 0 ≤ℤ at (bill_of I P).v k) × (at (bill_of I P).v k ≤ℤ pos (10 ^ 11))
    unfolding bill_of gender_mixes bad_rooms mandatory_left_out outside_windows over_capacity nurses_off uncovered
    rules-in zero l = count-in (gender_mixes I P) (days-small 1 (λ r xs. bit (genders_differ I xs)) (omega arith) (λ r xs h. bit-most (genders_differ I xs)))
    rules-in (suc zero) l = count-in (bad_rooms I P) (large (patients-few (λ a stay. in_bad_room a stay)) (omega arith))
    rules-in (suc (suc zero)) l = count-in (surgeon_overtime I P) (large surgeon_overtime-few (omega arith))
    rules-in (suc (suc (suc zero))) l = count-in (theatre_overtime I P) (large theatre_overtime-few (omega arith))
    rules-in (suc (suc (suc (suc zero)))) l = count-in (mandatory_left_out I P) (large (patients-few (λ a stay. a.mandatory && is_none stay)) (omega arith))
    rules-in (suc (suc (suc (suc (suc zero))))) l = count-in (outside_windows I P) (large (patients-few outside_window) (omega arith))
    rules-in (suc (suc (suc (suc (suc (suc zero)))))) l = count-in (over_capacity I P) capacity-small
    rules-in (suc (suc (suc (suc (suc (suc (suc zero))))))) l = count-in (nurses_off I P) (large (bits-few (λ k n xs. not_working I k n)) (omega arith))
    rules-in (suc (suc (suc (suc (suc (suc (suc (suc zero)))))))) l = count-in (uncovered I P) (large (bits-few (λ k n xs. is_none n && not (is_empty xs))) (omega arith))
    rules-in (suc (suc (suc (suc (suc (suc (suc (suc (suc k))))))))) l = absurd (omega arith)

    costs-in : (k : ℕ) → k < 8 → (pos 0 ≤ℤ at (bill_of I P).s k) × (at (bill_of I P).s k ≤ℤ pos (10 ^ 11))
    unfolding bill_of mixed_ages optional_left_out
    costs-in zero l = count-in (mixed_ages I P) (days-small 64 (λ r xs. age_spread I xs) (omega arith) (λ r xs h. spread-most I valid xs))
    costs-in (suc zero) l = count-in (missing_skill I P) missing-small
    costs-in (suc (suc zero)) l = count-in (nurses_seen I P) (large nurses_seen-few (omega arith))
    costs-in (suc (suc (suc zero))) l = count-in (overloads I P) (overloads-small I P valid)
    costs-in (suc (suc (suc (suc zero)))) l = count-in (open_theatres I P) (large open_theatres-few (omega arith))
    costs-in (suc (suc (suc (suc (suc zero))))) l = count-in (transfers I P) (large transfers-few (omega arith))
    costs-in (suc (suc (suc (suc (suc (suc zero)))))) l = count-in (delays I P) (large (delays-few plan) (omega arith))
    costs-in (suc (suc (suc (suc (suc (suc (suc zero))))))) l = count-in (optional_left_out I P) (large (patients-few (λ a stay. not a.mandatory && is_none stay)) (omega arith))
    costs-in (suc (suc (suc (suc (suc (suc (suc (suc k)))))))) l = absurd (omega arith)

    pub bill-counts : AreCounts (bill_of I P)
    bill-counts = record { v = rules-in; s = costs-in }

-- ---- bills and their changes within 10^11

pub counts-within : (b : Bill) → AreCounts b → IsWithin (10 ^ 11) b
counts-within b h = record {
  v = λ k l. (let low = (h.v k l).0 in omega (arith, ints), (h.v k l).1);
  s = λ k l. (let low = (h.s k l).0 in omega (arith, ints), (h.s k l).1);
}

-- Every number of the bill of a timetable is at most 10^11.
pub bill-within : (I : Draft) (P : Timetable) → IsValid I → IsPlanOf I P → IsWithin (10 ^ 11) (bill_of I P)
bill-within I P valid plan = counts-within (bill_of I P) (bill-counts I P valid plan)

apart-in : (x y : ℤ) → (pos 0 ≤ℤ x) × (x ≤ℤ pos (10 ^ 11)) → (pos 0 ≤ℤ y) × (y ≤ℤ pos (10 ^ 11)) → (neg_ℤ (pos (10 ^ 11)) ≤ℤ (x -ℤ y)) × ((x -ℤ y) ≤ℤ pos (10 ^ 11))
apart-in x y hx hy = (omega (arith, ints, hx.0, hy.1), omega (arith, ints, hx.1, hy.0))

-- the change from one bill to another
pub change-within : (I : Draft) (P Q : Timetable) → IsValid I → IsPlanOf I P → IsPlanOf I Q → IsWithin (10 ^ 11) (change_of_bill I P Q)
change-within I P Q valid planP planQ =
    let old = bill-counts I P valid planP in
    let new = bill-counts I Q valid planQ in
    record {
      v = λ k l. rw (at-listed 9 (λ k. at (bill_of I Q).v k -ℤ at (bill_of I P).v k) k l) (apart-in (at (bill_of I Q).v k) (at (bill_of I P).v k) (new.v k l) (old.v k l));
      s = λ k l. rw (at-listed 8 (λ k. at (bill_of I Q).s k -ℤ at (bill_of I P).s k) k l) (apart-in (at (bill_of I Q).s k) (at (bill_of I P).s k) (new.s k l) (old.s k l));
    }

-- what is within a bound is within a larger one
pub within-more : (m n : ℕ) (b : Bill) → m ≤ n → IsWithin m b → IsWithin n b
within-more m n b le h = record {
  v = λ k l. (let low = (h.v k l).0 in omega (arith, ints), let high = (h.v k l).1 in omega (arith, ints));
  s = λ k l. (let low = (h.s k l).0 in omega (arith, ints), let high = (h.s k l).1 in omega (arith, ints));
}
