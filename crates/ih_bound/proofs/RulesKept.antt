-- What it says of a timetable that it breaks no rule, rule by rule.
use Rattle.std.proofs.Common.{◌≡◌, ℕ, zero, suc, ◌-◌, ◌<◌, ◌≤◌, refl, arith, sym, ◌∙◌, Bool, true, false, List, [], ◌∷◌, length, Some, pos}
use Rattle.std.specs.Prelude.{◌&&◌, not, nat_eq, is_none, slice_get, slice_index, map}
use Rattle.std.proofs.lemmas.Bool.{and_parts, eqb-true}
use Rattle.ih_tables.specs.declared.drafts.Draft.{Draft}
use Rattle.ih_tables.specs.declared.drafts.Patient.{Patient}
use Rattle.ih_tables.specs.Sizes.{patient_count, room_count, surgeon_count, theatre_count, shift_count}
use Rattle.ih_tables.specs.Bills.{all_zero}
use Rattle.ih_plan.specs.Timetable.{Timetable, stay_of, care_of}
use Rattle.ih_plan.specs.Sums.{bit}
use Rattle.ih_plan.specs.Presence.{present, day_of}
use Rattle.ih_plan.specs.Costs.{minutes, operated, operated_by, surgeon_maximum, theatre_availability, capacity_of, not_working, is_empty, of_patient, outside_window}
use Rattle.ih_plan.specs.BillOf.{bill_of, broken_rules, surgeon_overtime, theatre_overtime, mandatory_left_out, outside_windows, over_capacity, nurses_off, uncovered}
use Rattle.ih_bound.specs.Bounds.{IsFeasible}
use Rattle.ih_bound.proofs.SumLaws.{sum_below-no_term, rows-no_term}

zero-parts : (x : ℕ) (xs : List ℕ) → all_zero (map pos (x ∷ xs)) ≡ true → (x ≡ 0) × (all_zero (map pos xs) ≡ true)
zero-parts x xs h = let parts = and_parts (nat_eq x 0) (all_zero (map pos xs)) h in (eqb-true x 0 parts.0, parts.1)

zero-each : (xs : List ℕ) (k : ℕ) → all_zero (map pos xs) ≡ true → slice_index xs k ≡ 0
zero-each [] k h = refl
zero-each (x ∷ xs) zero h = (zero-parts x xs h).0
zero-each (x ∷ xs) (suc k) h = zero-each xs k (zero-parts x xs h).1

bit-off : (b : Bool) → bit b ≡ 0 → b ≡ false
bit-off true e = absurd (omega arith)
bit-off false e = refl

fits : (x y : ℕ) → x - y ≡ 0 → x ≤ y
fits x y e = omega arith

pub of-patient : (I : Draft) (p : ℕ) (a : Patient) (f : Patient → ℕ) → slice_get I.patients p ≡ Some a → of_patient I p f ≡ f a
of-patient I p a f e = rw e refl

module _ (I : Draft) (P : Timetable) (feasible : IsFeasible I P) where
  rule : (k : ℕ) → slice_index (broken_rules I P) k ≡ 0
  unfolding bill_of
  rule k = zero-each (broken_rules I P) k feasible.rules

  -- no surgeon operates longer than the maximum of the day
  pub surgeon-fits : (s d : ℕ) → s < surgeon_count I → d < I.days → minutes I (operated_by I P s d) ≤ surgeon_maximum I s d
  unfolding surgeon_overtime
  surgeon-fits s d hs hd =
      fits (minutes I (operated_by I P s d)) (surgeon_maximum I s d)
      (rows-no_term (surgeon_count I) I.days s d (λ s d. minutes I (operated_by I P s d) - surgeon_maximum I s d) (rule 2) hs hd)

  -- no theatre is used longer than it is available
  pub theatre-fits : (t d : ℕ) → t < theatre_count I → d < I.days → minutes I (operated I P t d) ≤ theatre_availability I t d
  unfolding theatre_overtime
  theatre-fits t d ht hd =
      fits (minutes I (operated I P t d)) (theatre_availability I t d)
      (rows-no_term (theatre_count I) I.days t d (λ t d. minutes I (operated I P t d) - theatre_availability I t d) (rule 3) ht hd)

  -- no room has more persons than it is for
  pub room-fits : (r d : ℕ) → r < room_count I → d < I.days → length (present I P r d) ≤ capacity_of I r
  unfolding over_capacity
  room-fits r d hr hd =
      fits (length (present I P r d)) (capacity_of I r)
      (rows-no_term (room_count I) I.days r d (λ r d. length (present I P r d) - capacity_of I r) (rule 6) hr hd)

  -- a mandatory patient is admitted
  pub is-admitted : (p : ℕ) (a : Patient) → p < patient_count I → slice_get I.patients p ≡ Some a → (a.mandatory && is_none (stay_of P p)) ≡ false
  unfolding mandatory_left_out
  is-admitted p a h e =
      bit-off (a.mandatory && is_none (stay_of P p))
      (sym (of-patient I p a (λ a. bit (a.mandatory && is_none (stay_of P p))) e)
      ∙ sum_below-no_term (patient_count I) p (λ p. of_patient I p (λ a. bit (a.mandatory && is_none (stay_of P p)))) (rule 4) h)

  -- who is admitted is admitted within the window
  pub in-window : (p : ℕ) (a : Patient) → p < patient_count I → slice_get I.patients p ≡ Some a → outside_window a (stay_of P p) ≡ false
  unfolding outside_windows
  in-window p a h e =
      bit-off (outside_window a (stay_of P p))
      (sym (of-patient I p a (λ a. bit (outside_window a (stay_of P p))) e)
      ∙ sum_below-no_term (patient_count I) p (λ p. of_patient I p (λ a. bit (outside_window a (stay_of P p)))) (rule 5) h)

  -- no nurse is chosen for a shift that the nurse doesn't work
  pub on-duty : (r k : ℕ) → r < room_count I → k < shift_count I → not_working I k (care_of P r k) ≡ false
  unfolding nurses_off
  on-duty r k hr hk =
      bit-off (not_working I k (care_of P r k))
      (rows-no_term (room_count I) (shift_count I) r k (λ r k. bit (not_working I k (care_of P r k))) (rule 7) hr hk)

  -- an occupied room has a nurse
  pub has-nurse : (r k : ℕ) → r < room_count I → k < shift_count I → (is_none (care_of P r k) && not (is_empty (present I P r (day_of k)))) ≡ false
  unfolding uncovered
  has-nurse r k hr hk =
      bit-off (is_none (care_of P r k) && not (is_empty (present I P r (day_of k))))
      (rows-no_term (room_count I) (shift_count I) r k (λ r k. bit (is_none (care_of P r k) && not (is_empty (present I P r (day_of k))))) (rule 8) hr hk)
