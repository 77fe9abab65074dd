-- Where persons are: patients by their stays, occupants in their rooms, and nobody else anywhere.
use Rattle.std.proofs.Common.{◌≡◌, ℕ, ◌+◌, ◌-◌, ◌*◌, ◌<◌, ◌≤◌, refl, arith, sym, ap, ◌∙◌, true, false, inl, inr, Option, Some, None}
use Rattle.std.specs.Prelude.{◌&&◌, ◌==◌, nat_lt, slice_get}
use Rattle.std.proofs.lemmas.Bool.{cases_lt, lt-ltb, le-ltb}
use Rattle.std.proofs.lemmas.Option.{slice_get_within, slice_get_past}
use Rattle.ih_tables.specs.declared.drafts.Draft.{Draft}
use Rattle.ih_tables.specs.declared.drafts.Patient.{Patient}
use Rattle.ih_tables.specs.declared.drafts.Occupant.{Occupant}
use Rattle.ih_tables.specs.declared.ids.PatientNo.{PatientNo}
use Rattle.ih_tables.specs.Sizes.{patient_count, person_count, room_count, shift_count}
use Rattle.ih_plan.specs.declared.moves.Placement.{Placement}
use Rattle.ih_plan.specs.declared.moves.Write.TheVariants.{SetStay}
use Rattle.ih_plan.specs.Timetable.{Timetable, empty, stay_of, care_of}
use Rattle.ih_plan.specs.Writes.{put}
use Rattle.ih_plan.specs.Persons.{person_of}
use Rattle.ih_plan.specs.Presence.{admission_of, covers, is_in, is_present}
use Rattle.ih_plan.proofs.Entries.{admission-patient, admission-other}
use Rattle.ih_plan.proofs.ReadLemmas.{none-copies}

-- ---- the empty timetable

pub no-stay : (I : Draft) (p : ℕ) → stay_of (empty I) p ≡ None
no-stay I p = none-copies (patient_count I) p

pub no-nurse : (I : Draft) (r k : ℕ) → care_of (empty I) r k ≡ None
no-nurse I r k = rw (none-copies (shift_count I * room_count I) (shift_count I * r + k)) refl

-- ---- patients

-- a patient's length of stay is that of the person
pub stay-length : (I : Draft) (p : ℕ) (a : Patient) → slice_get I.patients p ≡ Some a → (person_of I p).length_of_stay ≡ a.length_of_stay
unfolding person_of
stay-length I p a e = let below = lt-ltb p (patient_count I) (slice_get_within I.patients p a e) in rw (below, e) refl

-- who isn't admitted is nowhere
pub nowhere : (I : Draft) (P : Timetable) (p r d : ℕ) → p < patient_count I → stay_of P p ≡ None → is_present I P r d p ≡ false
nowhere I P p r d known none = rw (admission-patient I P p known, none) refl

-- who is admitted is in the room on the days of the stay
pub somewhere : (I : Draft) (P : Timetable) (p r d : ℕ) (at : Placement) → p < patient_count I → stay_of P p ≡ Some at
    → is_present I P r d p ≡ ((at.room.0 == r) && covers at.day.0 (person_of I p).length_of_stay d)
somewhere I P p r d at known stay = rw (admission-patient I P p known, stay) refl

-- where a patient's stay is written nobody else moves
pub others-stay : (I : Draft) (P : Timetable) (p : PatientNo) (s : Option Placement) (r d x : ℕ) → (x ≡ p.0 → ⊥) → is_present I (put (SetStay p s) P) r d x ≡ is_present I P r d x
others-stay I P p s r d x ne = ap (λ a. is_in a (person_of I x).length_of_stay r d) (admission-other I P p s x ne)

-- ---- occupants

-- an occupant is in its room from day 0 on
pub occupant-there : (I : Draft) (P : Timetable) (r d k : ℕ) (o : Occupant) → slice_get I.occupants k ≡ Some o
    → is_present I P r d (patient_count I + k) ≡ ((o.room_id.0 == r) && covers 0 o.length_of_stay d)
unfolding admission_of person_of
occupant-there I P r d k o e =
    let no_patient = le-ltb (patient_count I + k) (patient_count I) (omega arith) in
    let place : patient_count I + k - patient_count I ≡ k = omega arith in
    rw (no_patient, place, e) refl

-- who isn't the next is below it where below the one after
pub below-next : (n k x : ℕ) → (x ≡ n + k → ⊥) → nat_lt x (n + (k + 1)) ≡ nat_lt x (n + k)
below-next n k x other = elim (cases_lt x (n + k)) [
  | inl early ↦ lt-ltb x (n + (k + 1)) (omega arith) ∙ sym (lt-ltb x (n + k) early)
  | inr late ↦ le-ltb x (n + (k + 1)) (elim (cases_lt (n + k) x) [
    | inl past ↦ omega arith
    | inr here ↦ absurd (other (omega arith))
  ]) ∙ sym (le-ltb x (n + k) late)
]

-- ---- nobody

-- a number past the last person's is nobody's
pub nobody-past : (I : Draft) (P : Timetable) (r d x : ℕ) → person_count I ≤ x → is_present I P r d x ≡ false
unfolding admission_of
nobody-past I P r d x past =
    let no_patient = le-ltb x (patient_count I) (omega arith) in
    let no_occupant = slice_get_past I.occupants (x - patient_count I) (omega arith) in
    rw (no_patient, no_occupant) refl

-- only persons are present
pub person-known : (I : Draft) (P : Timetable) (r d x : ℕ) → is_present I P r d x ≡ true → x < person_count I
person-known I P r d x there = elim (cases_lt x (person_count I)) [
  | inl below ↦ below
  | inr past ↦ absurd (let no : false ≡ true = sym (nobody-past I P r d x past) ∙ there in cc)
]
