-- Of an instance with a feasible timetable nothing is said.
use Rattle.std.proofs.Common.{◌≡◌, ℕ, zero, suc, ◌<◌, refl, arith, List, [], Option, Some, None}
use Rattle.std.specs.Prelude.{slice_get}
use Rattle.std.specs.Option.{option_map_or}
use Rattle.std.proofs.lemmas.Bool.{false_from_ne_true}
use Rattle.ih_tables.specs.declared.drafts.Draft.{Draft}
use Rattle.ih_tables.specs.declared.drafts.Patient.{Patient}
use Rattle.ih_tables.specs.Sizes.{patient_count, room_count, shift_count}
use Rattle.ih_tables.specs.Valid.{IsValid}
use Rattle.ih_plan.specs.Timetable.{Timetable}
use Rattle.ih_validate.specs.Report.{lines_below}
use Rattle.ih_bound.specs.Bounds.{IsFeasible}
use Rattle.ih_why.specs.declared.reasons.Reason.{Reason}
use Rattle.ih_why.specs.Account.{account, crowd_line, day_lines, mix_line, patient_line, reason_line, room_days_text, room_shifts_text, shift_line}
use Rattle.ih_why.specs.Admissions.{reason_of}
use Rattle.ih_why.specs.Beds.{is_crowded, is_deserted, is_mixed}
use Rattle.ih_why.proofs.Admitted.{reason-true}
use Rattle.ih_why.proofs.Lying.{not-crowded, not-deserted, not-mixed}
use Rattle.ih_why.proofs.FirstReason.{reason-holds}

no-lines : (n : ℕ) (f : ℕ → List ℕ) → ((i : ℕ) → i < n → f i ≡ []) → lines_below n f ≡ []
unfolding lines_below
no-lines zero f none = refl
no-lines (suc n) f none = rw (no-lines n f (λ i h. none i (omega arith)), none n (omega arith)) refl

module _ (I : Draft) (valid : IsValid I) (P : Timetable) (feasible : IsFeasible I P) where
  no-reason : (p : ℕ) (a : Patient) → p < patient_count I → slice_get I.patients p ≡ Some a → (o : Option Reason) → reason_of I a ≡ o → reason_line I a o ≡ []
  no-reason p a known e None is = refl
  no-reason p a known e (Some why) is =
      let found = reason-holds I a why is in
      absurd (reason-true I valid P feasible p a known e found.0 why found.1)

  no-patient : (p : ℕ) → p < patient_count I → patient_line I p ≡ []
  no-patient p known = by_case (slice_get I.patients p) refl
    where
      by_case : (o : Option Patient) → slice_get I.patients p ≡ o → option_map_or (λ (a : Patient). reason_line I a (reason_of I a)) o [] ≡ []
      by_case None e = refl
      by_case (Some a) e = no-reason p a known e (reason_of I a) refl

  no-day : (r d : ℕ) → r < room_count I → d < I.days → day_lines I r d ≡ []
  unfolding day_lines crowd_line mix_line
  no-day r d hr hd =
      let crowd = false_from_ne_true (is_crowded I r d) (not-crowded I P feasible r d hr hd) in
      let mix = false_from_ne_true (is_mixed I r d) (not-mixed I P feasible r d hr hd) in
      rw (crowd, mix) refl

  no-shift : (r k : ℕ) → r < room_count I → k < shift_count I → shift_line I r k ≡ []
  unfolding shift_line
  no-shift r k hr hk =
      let desert = false_from_ne_true (is_deserted I r k) (not-deserted I P feasible r k hr hk) in
      rw desert refl

  pub nothing-said : account I ≡ []
  unfolding account room_days_text room_shifts_text
  nothing-said =
      let patients = no-lines (patient_count I) (patient_line I) no-patient in
      let days = no-lines (room_count I) (room_days_text I) (λ r hr. no-lines I.days (day_lines I r) (λ d hd. no-day r d hr hd)) in
      let shifts = no-lines (room_count I) (room_shifts_text I) (λ r hr. no-lines (shift_count I) (shift_line I r) (λ k hk. no-shift r k hr hk)) in
      rw (patients, days, shifts) refl
