-- The nurses over the counted shifts of a stay.
use Rattle.std.proofs.Common.{◌≡◌, ℕ, ◌+◌, ◌<◌, refl, arith, ap, ◌∙◌, map, Option, Some, None}
use Rattle.std.specs.Prelude.{option_map}
use Rattle.ih_tables.specs.declared.drafts.Draft.{Draft}
use Rattle.ih_tables.specs.declared.ids.PersonNo.{PersonNo}
use Rattle.ih_tables.specs.declared.ids.PatientNo.{PatientNo}
use Rattle.ih_tables.specs.declared.ids.RoomNo.{RoomNo}
use Rattle.ih_tables.specs.declared.ids.Shift.{Shift}
use Rattle.ih_tables.specs.declared.ids.NurseNo.{NurseNo}
use Rattle.ih_tables.specs.Sizes.{patient_count, nurse_count}
use Rattle.ih_plan.specs.declared.moves.Placement.{Placement}
use Rattle.ih_plan.specs.declared.moves.Write.TheVariants.{SetStay, SetCare}
use Rattle.ih_plan.specs.Writes.{put}
use Rattle.ih_plan.proofs.Entries.{admission-set}
use Rattle.ih_plan.proofs.SumBounds.{sum_below-none}
use Rattle.ih_nurses.specs.declared.shift_spans.ShiftSpan.{ShiftSpan}
use Rattle.ih_tables.specs.declared.cells.Cell.TheVariants.{Care}
use Rattle.ih_plan.specs.Timetable.{Timetable, IsPlanOf}
use Rattle.ih_plan.specs.Persons.{person_of}
use Rattle.ih_plan.specs.Presence.{Admission, placed_at, admission_of, shifts_in, shifts_of}
use Rattle.ih_plan.specs.Costs.{nurse_for, distinct_nurses}
use Rattle.ih_plan.specs.BillOf.{as_bill}
use Rattle.ih_plan.specs.Cells.{part_at}
use Rattle.ih_nurses.specs.ShiftSpans.{shift_span_in, nurses_over}
use Rattle.ih_nurses.proofs.BillLemmas.{nursing, care-part}

-- the nurses of a stay's shifts, by its room
pub nurses-alike : (I : Draft) (P : Timetable) (o : Option Admission) (n : ℕ)
    → map (nurse_for P (option_map (λ (a : Admission). a.room) o)) (shifts_in I o n) ≡ nurses_over P (shift_span_in I o n)
nurses-alike I P None n = refl
nurses-alike I P (Some a) n = refl

-- the distinct nurses over a person's counted shifts are its part of the bill
pub shift_span-part : (I : Draft) (P : Timetable) (x : PersonNo) (seen : ℕ)
    → seen ≡ distinct_nurses I (nurses_over P (shift_span_in I (admission_of I P x.0) (person_of I x.0).length_of_stay))
    → nursing 0 0 0 seen 0 ≡ as_bill (part_at I P (Care x))
unfolding shifts_of
shift_span-part I P x seen e =
    care-part I P x seen (e ∙ rw (← nurses-alike I P (admission_of I P x.0) (person_of I x.0).length_of_stay) refl)

nurses-kept : (P : Timetable) (p : PatientNo) (s : Option Placement) (o : Option ShiftSpan) → nurses_over (put (SetStay p s) P) o ≡ nurses_over P o
nurses-kept P p s None = refl
nurses-kept P p s (Some a) = refl

-- who isn't admitted sees no nurses, and with a placement the patient sees those of its span of shifts
pub care-delta : (I : Draft) (P : Timetable) (p : PatientNo) (at : Placement) → IsPlanOf I P → p.0 < patient_count I → (seen : ℕ)
    → seen ≡ distinct_nurses I (nurses_over P (shift_span_in I (Some (placed_at at)) (person_of I p.0).length_of_stay))
    → seen + distinct_nurses I (nurses_over (put (SetStay p None) P) (shift_span_in I (admission_of I (put (SetStay p None) P) p.0) (person_of I p.0).length_of_stay))
    ≡ distinct_nurses I (nurses_over (put (SetStay p (Some at)) P) (shift_span_in I (admission_of I (put (SetStay p (Some at)) P) p.0) (person_of I p.0).length_of_stay)) + 0
care-delta I P p at plan patient seen e =
    let n = (person_of I p.0).length_of_stay in
    let with : Timetable = put (SetStay p (Some at)) P in
    let without : Timetable = put (SetStay p None) P in
    let now : distinct_nurses I (nurses_over with (shift_span_in I (admission_of I with p.0) n)) ≡ distinct_nurses I (nurses_over P (shift_span_in I (Some (placed_at at)) n)) =
    ap (λ a. distinct_nurses I (nurses_over with (shift_span_in I a n))) (admission-set I P p (Some at) plan patient)
    ∙ ap (distinct_nurses I) (nurses-kept P p (Some at) (shift_span_in I (Some (placed_at at)) n)) in
    let out : distinct_nurses I (nurses_over without (shift_span_in I (admission_of I without p.0) n)) ≡ 0 =
    ap (λ a. distinct_nurses I (nurses_over without (shift_span_in I a n))) (admission-set I P p None plan patient) ∙ sum_below-none (nurse_count I) in
    omega (arith, e, now, out)

-- a choice leaves each person's stay
pub shift_span-kept : (I : Draft) (P : Timetable) (r : RoomNo) (k : Shift) (n : Option NurseNo) (x : ℕ) → admission_of I (put (SetCare r k n) P) x ≡ admission_of I P x
unfolding admission_of
shift_span-kept I P r k n x = refl
