-- The laws of what is said: where something is said no timetable is feasible, and nobody is passed over.
use Rattle.std.specs.Prelude.{◌≡◌, ℕ, ◌<◌, [], true, false, Some, slice_get}
use Rattle.ih_tables.specs.declared.drafts.Draft.{Draft}
use Rattle.ih_tables.specs.declared.drafts.Patient.{Patient}
use Rattle.ih_tables.specs.Sizes.{room_count, shift_count}
use Rattle.ih_bound.specs.Bounds.{NoneIsFeasible}
use Rattle.ih_why.specs.declared.reasons.Reason.{Reason}
use Rattle.ih_why.specs.Account.{account}
use Rattle.ih_why.specs.Admissions.{has_admission, holds, reason_of}
use Rattle.ih_why.specs.Beds.{is_crowded, is_deserted, is_mixed}

-- Where anything is said, no timetable is feasible; and so it is of each sentence alone.
pub record ReasonsAreTrue (I : Draft) : Type 0 where
  pub said : (account I ≡ [] → ⊥) → NoneIsFeasible I
  pub patients : (p : ℕ) (a : Patient) (why : Reason) → slice_get I.patients p ≡ Some a → reason_of I a ≡ Some why
      → NoneIsFeasible I
  pub crowded : (r d : ℕ) → r < room_count I → d < I.days → is_crowded I r d ≡ true → NoneIsFeasible I
  pub mixed : (r d : ℕ) → r < room_count I → d < I.days → is_mixed I r d ≡ true → NoneIsFeasible I
  pub deserted : (r k : ℕ) → r < room_count I → k < shift_count I → is_deserted I r k ≡ true → NoneIsFeasible I

-- A patient who must be admitted and can't be has a reason, which holds; and nobody else has one.
pub record NobodyIsPassedOver (I : Draft) : Type 0 where
  pub reason : (a : Patient) → a.mandatory ≡ true → has_admission I a ≡ false
      → (why : Reason) × (reason_of I a ≡ Some why)
  pub only : (a : Patient) (why : Reason) → reason_of I a ≡ Some why
      → (a.mandatory ≡ true) × (has_admission I a ≡ false) × (holds I a why ≡ true)
