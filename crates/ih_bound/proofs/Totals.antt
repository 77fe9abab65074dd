-- Weak duality: what all persons of a feasible timetable pay is at most what its costs are worth, and the income.
use Rattle.std.proofs.Common.{◌≡◌, ℕ, ◌+◌, ◌*◌, ◌≤◌, refl, arith, Option, Some, None}
use Rattle.std.specs.Prelude.{◌&&◌, not, is_none, slice_get}
use Rattle.std.specs.Option.{option_map_or}
use Rattle.std.proofs.lemmas.Bool.{eq-eqb}
use Rattle.std.proofs.lemmas.Option.{slice_get_past}
use Rattle.ih_tables.specs.declared.drafts.Draft.{Draft}
use Rattle.ih_tables.specs.declared.drafts.Patient.{Patient}
use Rattle.ih_tables.specs.Sizes.{patient_count, person_count, surgeon_count, theatre_count}
use Rattle.ih_tables.specs.Valid.{IsValid, IsPatient}
use Rattle.ih_plan.specs.declared.moves.Placement.{Placement}
use Rattle.ih_plan.specs.Timetable.{Timetable, stay_of}
use Rattle.ih_plan.specs.Sums.{sum_below, bit}
use Rattle.ih_plan.specs.Costs.{of_patient, delay}
use Rattle.ih_plan.specs.BillOf.{open_theatres, delays, optional_left_out}
use Rattle.ih_plan.proofs.SumBounds.{sum_below-add, sum_below-le_each}
use Rattle.ih_plan.proofs.Overtime.{from-all}
use Rattle.ih_bound.specs.declared.prices.Rates.{Rates}
use Rattle.ih_bound.specs.Bounds.{IsFeasible}
use Rattle.ih_bound.specs.Tariffs.{Tariff, income, worth, surgeon_income, theatre_income}
use Rattle.ih_bound.specs.Paid.{surgery_paid, waiting_paid, stay_paid, care_paid, bed_paid, paid}
use Rattle.ih_bound.proofs.SumLaws.{sum_below-term, sum_below-times, sum_below-past}
use Rattle.ih_bound.proofs.ByPerson.{care-by_person}
use Rattle.ih_bound.proofs.IncomeLemmas.{surgeon_part, theatre_part, surgeons-paid, theatres-paid, beds-paid, loads-paid}

-- whoever isn't a patient pays for no stay
no-stay : (I : Draft) (rates : Rates) (t : Tariff) (P : Timetable) (x : ℕ) → patient_count I ≤ x → stay_paid I rates t P x ≡ 0
no-stay I rates t P x past = rw (slice_get_past I.patients x past) refl

module _ (I : Draft) (P : Timetable) (valid : IsValid I) (feasible : IsFeasible I P) (rates : Rates) (t : Tariff) where
  abbrev surgeons_of : ℕ → ℕ
  surgeons_of p = sum_below I.days (λ d. sum_below (surgeon_count I) (λ s. surgeon_part I P valid feasible t s d p))

  abbrev theatres_of : ℕ → ℕ
  theatres_of p = sum_below I.days (λ d. sum_below (theatre_count I) (λ i. theatre_part I P valid feasible t i d p))

  surgery-share : (p : ℕ) (a : Patient) (stay : Option Placement) → slice_get I.patients p ≡ Some a → stay_of P p ≡ stay
      → surgery_paid t p a stay ≤ surgeons_of p + theatres_of p
  surgery-share p a None e none = omega arith
  surgery-share p a (Some at) e is =
      let inside = feasible.plan.placed p at is in
      let known = (from-all (IsPatient I) I.patients p a valid.each_patient e).surgeon in
      let by_surgeon : surgeon_part I P valid feasible t a.surgeon_id.0 at.day.0 p ≡ t.surgeon a.surgeon_id.0 at.day.0 * a.surgery_duration =
      rw (e, is, eq-eqb a.surgeon_id.0 a.surgeon_id.0 refl, eq-eqb at.day.0 at.day.0 refl) refl in
      let in_theatre : theatre_part I P valid feasible t at.theatre.0 at.day.0 p ≡ t.theatre at.theatre.0 at.day.0 * a.surgery_duration + t.share p at.theatre.0 at.day.0 =
      rw (e, is, eq-eqb at.theatre.0 at.theatre.0 refl, eq-eqb at.day.0 at.day.0 refl) refl in
      let one = sum_below-term (surgeon_count I) a.surgeon_id.0 (λ s. surgeon_part I P valid feasible t s at.day.0 p) known in
      let two = sum_below-term I.days at.day.0 (λ d. sum_below (surgeon_count I) (λ s. surgeon_part I P valid feasible t s d p)) inside.day in
      let three = sum_below-term (theatre_count I) at.theatre.0 (λ i. theatre_part I P valid feasible t i at.day.0 p) inside.theatre in
      let four = sum_below-term I.days at.day.0 (λ d. sum_below (theatre_count I) (λ i. theatre_part I P valid feasible t i d p)) inside.day in
      omega (arith, by_surgeon, in_theatre, one, two, three, four)

  delay_of : ℕ → ℕ
  delay_of p = of_patient I p (λ a. delay a (stay_of P p))

  left_of : ℕ → ℕ
  left_of p = of_patient I p (λ a. bit (not a.mandatory && is_none (stay_of P p)))

  stay-share : (p : ℕ) → stay_paid I rates t P p ≤ surgeons_of p + theatres_of p + rates.delay * delay_of p + rates.left_out * left_of p
  unfolding delay_of left_of
  stay-share p = by_case (slice_get I.patients p) refl
    where
      by_case : (o : Option Patient) → slice_get I.patients p ≡ o
          → option_map_or (λ a. surgery_paid t p a (stay_of P p) + waiting_paid rates a (stay_of P p)) o 0
          ≤ surgeons_of p + theatres_of p + rates.delay * option_map_or (λ a. delay a (stay_of P p)) o 0
          + rates.left_out * option_map_or (λ a. bit (not a.mandatory && is_none (stay_of P p))) o 0
      by_case None e = omega arith
      by_case (Some a) e = omega (arith, surgery-share p a (stay_of P p) e refl)

  -- what all patients pay for their stays
  stays-paid : sum_below (person_count I) (stay_paid I rates t P)
      ≤ surgeon_income I t + (rates.theatre * open_theatres I P + theatre_income I rates t) + rates.delay * delays I P + rates.left_out * optional_left_out I P
  unfolding delays optional_left_out delay_of left_of
  stays-paid =
      let N = patient_count I in
      let past = sum_below-past N (person_count I) (stay_paid I rates t P) (omega arith) (λ x low high. no-stay I rates t P x low) in
      let each = sum_below-le_each N (stay_paid I rates t P) (λ p. surgeons_of p + theatres_of p + rates.delay * delay_of p + rates.left_out * left_of p) (λ p l. stay-share p) in
      let first = sum_below-add N (λ p. surgeons_of p + theatres_of p + rates.delay * delay_of p) (λ p. rates.left_out * left_of p) in
      let second = sum_below-add N (λ p. surgeons_of p + theatres_of p) (λ p. rates.delay * delay_of p) in
      let third = sum_below-add N surgeons_of theatres_of in
      let late = sum_below-times N rates.delay delay_of in
      let out = sum_below-times N rates.left_out left_of in
      omega (arith, past, each, first, second, third, late, out, surgeons-paid I P valid feasible t, theatres-paid I P valid feasible rates t)

  -- what all persons pay
  pub weak-duality : ((n k : ℕ) → t.work n k ≤ rates.load) → sum_below (person_count I) (paid I rates t P) ≤ worth I rates P + income I rates t
  unfolding paid worth income
  weak-duality cheap =
      let X = person_count I in
      let first = sum_below-add X (λ x. care_paid I rates t P x + bed_paid I t P x) (stay_paid I rates t P) in
      let second = sum_below-add X (care_paid I rates t P) (bed_paid I t P) in
      let care = care-by_person I P valid feasible.plan rates t in
      omega (arith, first, second, care, loads-paid I P valid feasible rates t cheap, beds-paid I P valid feasible t, stays-paid)
