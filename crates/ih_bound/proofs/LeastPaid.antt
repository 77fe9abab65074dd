-- What a person pays, part by part: an occupant, a patient who is left out, and one who is admitted.
use Rattle.std.proofs.Common.{◌≡◌, ℕ, ◌+◌, ◌-◌, ◌*◌, ◌<◌, ◌≤◌, refl, arith, sym, ap, ◌∙◌, Bool, true, false, inl, inr, Some, None}
use Rattle.std.specs.Prelude.{if◌then◌else◌, ◌&&◌, ◌||◌, not, nat_lt, slice_get}
use Rattle.std.proofs.lemmas.Bool.{cases_lt, lt-ltb, le-ltb, eq-eqb}
use Rattle.ih_tables.specs.declared.drafts.Draft.{Draft}
use Rattle.ih_tables.specs.declared.drafts.Patient.{Patient}
use Rattle.ih_tables.specs.declared.drafts.Occupant.{Occupant}
use Rattle.ih_tables.specs.Sizes.{patient_count, occupant_count, person_count, surgeon_count}
use Rattle.ih_plan.specs.declared.moves.Placement.{Placement}
use Rattle.ih_plan.specs.Timetable.{Timetable, stay_of}
use Rattle.ih_plan.specs.Sums.{bit}
use Rattle.ih_plan.specs.Persons.{Person, person_of, patient_person, occupant_person}
use Rattle.ih_plan.specs.Presence.{admission_of, end_from}
use Rattle.ih_plan.specs.Costs.{admitted_on, after_due, theatre_availability, surgeon_maximum, surgeon_of, is_number, duration_of, operated, operated_by, operated_in}
use Rattle.ih_bound.specs.declared.prices.Rates.{Rates}
use Rattle.ih_bound.specs.Bounds.{IsFeasible}
use Rattle.ih_bound.specs.Tariffs.{Tariff}
use Rattle.ih_bound.specs.Paid.{stay_paid, theatre_paid, care_paid, bed_paid, paid}
use Rattle.ih_bound.specs.Least.{bed_cost}
use Rattle.ih_bound.specs.Stays.{Asked, IsAskedBy}
use Rattle.ih_bound.proofs.RulesKept.{in-window, is-admitted, surgeon-fits, theatre-fits}
use Rattle.ih_bound.proofs.SumLaws.{sum_below-term}
use Rattle.ih_plan.proofs.SumLemmas.{sum_by-which_below}

-- ---- admissions

pub admission-stay : (I : Draft) (P : Timetable) (p : ℕ) (at : Placement) → p < patient_count I → stay_of P p ≡ Some at → admission_of I P p ≡ Some (record { room = at.room.0; day = at.day.0 })
unfolding admission_of
admission-stay I P p at known e = rw (lt-ltb p (patient_count I) known, e) refl

pub admission-occupant : (I : Draft) (P : Timetable) (k : ℕ) (o : Occupant) → slice_get I.occupants k ≡ Some o
    → admission_of I P (patient_count I + k) ≡ Some (record { room = o.room_id.0; day = 0 })
unfolding admission_of
admission-occupant I P k o e =
    let place : patient_count I + k - patient_count I ≡ k = omega arith in
    rw (le-ltb (patient_count I + k) (patient_count I) (omega arith), place, e) refl

pub beds-from : (I : Draft) (t : Tariff) (P : Timetable) (x a r : ℕ) → admission_of I P x ≡ Some (record { room = r; day = a }) → bed_paid I t P x ≡ bed_cost I t a (person_of I x).length_of_stay
unfolding bed_paid
beds-from I t P x a r e = rw e refl

-- ---- what is paid

-- care and beds at least
pub paid-least : (I : Draft) (rates : Rates) (t : Tariff) (P : Timetable) (x : ℕ) → care_paid I rates t P x + bed_paid I t P x ≤ paid I rates t P x
unfolding paid
paid-least I rates t P x = omega arith

-- being left out at least
pub paid-left_out : (I : Draft) (rates : Rates) (t : Tariff) (P : Timetable) (p : ℕ) (q : Patient) → slice_get I.patients p ≡ Some q → q.mandatory ≡ false → stay_of P p ≡ None
    → rates.left_out ≤ paid I rates t P p
unfolding paid
paid-left_out I rates t P p q e optional none =
    let stay : stay_paid I rates t P p ≡ 0 + (rates.delay * 0 + rates.left_out * 1) = rw (e, none, optional) refl in
    omega (arith, stay)

-- all that an admitted patient pays
pub paid-admitted : (I : Draft) (rates : Rates) (t : Tariff) (P : Timetable) (p : ℕ) (q : Patient) (at : Placement) → p < patient_count I → slice_get I.patients p ≡ Some q → stay_of P p ≡ Some at
    → care_paid I rates t P p + bed_cost I t at.day.0 (person_of I p).length_of_stay
    + (q.surgery_duration * t.surgeon q.surgeon_id.0 at.day.0 + theatre_paid t p q.surgery_duration at.theatre.0 at.day.0)
    + rates.delay * (at.day.0 - q.surgery_release_day) ≤ paid I rates t P p
unfolding paid
paid-admitted I rates t P p q at known e is =
    let stay : stay_paid I rates t P p ≡ (q.surgery_duration * t.surgeon q.surgeon_id.0 at.day.0 + theatre_paid t p q.surgery_duration at.theatre.0 at.day.0)
    + (rates.delay * (at.day.0 - q.surgery_release_day) + rates.left_out * bit (not q.mandatory && false)) = rw (e, is) refl in
    let bed = beds-from I t P p at.day.0 at.room.0 (admission-stay I P p at known is) in
    omega (arith, stay, bed)

-- ---- when patients are admitted

or-off : (a b : Bool) → (a || b) ≡ false → (a ≡ false) × (b ≡ false)
or-off true b e = absurd (let no : true ≡ false = e in cc)
or-off false b e = (refl, e)

not-less : (a b : ℕ) → nat_lt a b ≡ false → b ≤ a
not-less a b e = elim (cases_lt a b) [
  | inl below ↦ absurd (let no : true ≡ false = sym (lt-ltb a b below) ∙ e in cc)
  | inr above ↦ above
]

module _ (I : Draft) (P : Timetable) (feasible : IsFeasible I P) (p : ℕ) (q : Patient) (at : Placement)
    (known : p < patient_count I) (e : slice_get I.patients p ≡ Some q) (is : stay_of P p ≡ Some at) where
  kept : (nat_lt at.day.0 q.surgery_release_day ≡ false) × ((q.mandatory && after_due q.surgery_due_day at.day.0) ≡ false)
  kept = or-off (nat_lt at.day.0 q.surgery_release_day) (q.mandatory && after_due q.surgery_due_day at.day.0) (rw is at (in-window I P feasible p q known e))

  pub from-release : q.surgery_release_day ≤ at.day.0
  from-release = not-less at.day.0 q.surgery_release_day kept.0

  pub until-due : (due : ℕ) → q.mandatory ≡ true → q.surgery_due_day ≡ Some due → at.day.0 ≤ due
  until-due due must is_due = not-less due at.day.0 (rw (must, is_due) at kept.1)

-- a mandatory patient isn't left out
pub mandatory-stays : (I : Draft) (P : Timetable) (p : ℕ) (q : Patient) → IsFeasible I P → p < patient_count I → slice_get I.patients p ≡ Some q → q.mandatory ≡ true → stay_of P p ≡ None → ⊥
mandatory-stays I P p q feasible known e must none =
    let out : (true && true) ≡ false = rw (must, none) at (is-admitted I P feasible p q known e) in
    absurd (let no : true ≡ false = out in cc)

-- ---- theatres and surgeons with the minutes

module _ (I : Draft) (P : Timetable) (feasible : IsFeasible I P) (p : ℕ) (q : Patient) (at : Placement)
    (known : p < patient_count I) (e : slice_get I.patients p ≡ Some q) (is : stay_of P p ≡ Some at) where
  pub theatre-long_enough : q.surgery_duration ≤ theatre_availability I at.theatre.0 at.day.0
  unfolding operated
  theatre-long_enough =
      let inside = feasible.plan.placed p at is in
      let all = theatre-fits I P feasible at.theatre.0 at.day.0 inside.theatre inside.day in
      let sum = sum_by-which_below (duration_of I) (patient_count I) (λ i. operated_in at.theatre.0 at.day.0 (stay_of P i)) in
      let one = sum_below-term (patient_count I) p (λ i. if operated_in at.theatre.0 at.day.0 (stay_of P i) then duration_of I i else 0) known in
      let here : (if operated_in at.theatre.0 at.day.0 (stay_of P p) then duration_of I p else 0) ≡ q.surgery_duration =
      rw (is, e, eq-eqb at.theatre.0 at.theatre.0 refl, eq-eqb at.day.0 at.day.0 refl) refl in
      omega (arith, all, sum, one, here)

  pub surgeon-long_enough : q.surgeon_id.0 < surgeon_count I → q.surgery_duration ≤ surgeon_maximum I q.surgeon_id.0 at.day.0
  unfolding operated_by
  surgeon-long_enough hs =
      let inside = feasible.plan.placed p at is in
      let s = q.surgeon_id.0 in
      let all = surgeon-fits I P feasible s at.day.0 hs inside.day in
      let sum = sum_by-which_below (duration_of I) (patient_count I) (λ i. is_number (surgeon_of I i) s && admitted_on at.day.0 (stay_of P i)) in
      let one = sum_below-term (patient_count I) p (λ i. if is_number (surgeon_of I i) s && admitted_on at.day.0 (stay_of P i) then duration_of I i else 0) known in
      let here : (if is_number (surgeon_of I p) s && admitted_on at.day.0 (stay_of P p) then duration_of I p else 0) ≡ q.surgery_duration =
      rw (is, e, eq-eqb s s refl, eq-eqb at.day.0 at.day.0 refl) refl in
      omega (arith, all, sum, one, here)

-- ---- what persons ask for

patient-is : (I : Draft) (p : ℕ) (q : Patient) → p < patient_count I → slice_get I.patients p ≡ Some q → person_of I p ≡ patient_person q
unfolding person_of
patient-is I p q known e = rw (lt-ltb p (patient_count I) known, e) refl

occupant-is : (I : Draft) (k : ℕ) (o : Occupant) → slice_get I.occupants k ≡ Some o → person_of I (patient_count I + k) ≡ occupant_person o
unfolding person_of
occupant-is I k o e =
    let place : patient_count I + k - patient_count I ≡ k = omega arith in
    rw (le-ltb (patient_count I + k) (patient_count I) (omega arith), place, e) refl

asked-by : (I : Draft) (x a : ℕ) (y : Person) (s : Asked) → x < person_count I → person_of I x ≡ y → s.skill ≡ y.skill → s.load ≡ y.workload → s.first ≡ 3 * a → s.last ≡ 3 * end_from I a y.length_of_stay → IsAskedBy I x a s
asked-by I x a y s known is skill load first last = record {
  person = known;
  skill = skill ∙ sym (ap (λ (z : Person). z.skill) is);
  load = load ∙ sym (ap (λ (z : Person). z.workload) is);
  first = first;
  last = last ∙ sym (ap (λ (z : Person). 3 * end_from I a z.length_of_stay) is);
}

pub asked-by_patient : (I : Draft) (p a : ℕ) (q : Patient) (s : Asked) → p < patient_count I → slice_get I.patients p ≡ Some q → s.skill ≡ q.skill_level_required → s.load ≡ q.workload_produced
    → s.first ≡ 3 * a → s.last ≡ 3 * end_from I a q.length_of_stay → IsAskedBy I p a s
asked-by_patient I p a q s known e skill load first last = asked-by I p a (patient_person q) s (omega arith) (patient-is I p q known e) skill load first last

pub asked-by_occupant : (I : Draft) (k a : ℕ) (o : Occupant) (s : Asked) → k < occupant_count I → slice_get I.occupants k ≡ Some o → s.skill ≡ o.skill_level_required → s.load ≡ o.workload_produced
    → s.first ≡ 3 * a → s.last ≡ 3 * end_from I a o.length_of_stay → IsAskedBy I (patient_count I + k) a s
asked-by_occupant I k a o s known e skill load first last = asked-by I (patient_count I + k) a (occupant_person o) s (omega arith) (occupant-is I k o e) skill load first last

-- an occupant's length of stay is that of the person
pub occupant-length : (I : Draft) (k : ℕ) (o : Occupant) → slice_get I.occupants k ≡ Some o → (person_of I (patient_count I + k)).length_of_stay ≡ o.length_of_stay
occupant-length I k o e = ap (λ (z : Person). z.length_of_stay) (occupant-is I k o e)
