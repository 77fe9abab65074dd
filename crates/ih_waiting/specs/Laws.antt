-- The laws of who waits: what a line's numbers say is so, and nobody who waits is passed over.
use Rattle.std.specs.Prelude.{◌≡◌, ℕ, ◌<◌, ◌≤ℤ◌, ◌+ℤ◌, [], Some, None, slice_get}
use Rattle.ih_tables.specs.declared.drafts.Draft.{Draft}
use Rattle.ih_tables.specs.Bills.{at, cost, signed_sum}
use Rattle.ih_tables.specs.Sizes.{patient_count}
use Rattle.ih_plan.specs.declared.moves.Placement.{Placement}
use Rattle.ih_plan.specs.BillOf.{bill_of}
use Rattle.ih_plan.specs.Timetable.{Timetable, stay_of}
use Rattle.ih_plan.specs.Writes.{put}
use Rattle.ih_fill.specs.Candidates.{stay_writes}
use Rattle.ih_fill.specs.FirstLeast.{IsFirstLeastOf}
use Rattle.ih_waiting.specs.Admissions.{admission_score, admit, broken_more, change_by, cheapest_admission}
use Rattle.ih_waiting.specs.Waiting.{waiting_text}

-- What is said of an admission is true of the timetable with it.
pub record AdmissionsAreTrue (I : Draft) (P : Timetable) : Type 0 where
  -- where no rules more are said to be broken, each is broken no more than it was: what the plan keeps stays kept
  pub kept : (p : ℕ) (place : Placement) → broken_more (change_by I P p place) ≡ 0
      → (k : ℕ) → k < 9 → at (bill_of I (put (admit p place) P)).v k ≤ℤ at (bill_of I P).v k
  -- the cost is the plan's and the change that is said
  pub priced : (p : ℕ) (place : Placement)
      → cost I.weights (bill_of I (put (admit p place) P))
      ≡ cost I.weights (bill_of I P) +ℤ cost I.weights (change_by I P p place)
  -- of the stays that the patient may get it is the first of least score
  pub least : (p : ℕ) (place : Placement) → cheapest_admission I P p ≡ Some place
      → IsFirstLeastOf (admission_score I P) (stay_writes I p) (admit p place)
  -- and none that breaks as few rules in all is cheaper
  pub cheapest : (p k : ℕ) (place other : Placement) → cheapest_admission I P p ≡ Some place
      → slice_get (stay_writes I p) k ≡ Some (admit p other)
      → signed_sum 9 (at (change_by I P p other).v) ≤ℤ signed_sum 9 (at (change_by I P p place).v)
      → cost I.weights (change_by I P p place) ≤ℤ cost I.weights (change_by I P p other)
  -- where none is said there is none
  pub none : (p : ℕ) → cheapest_admission I P p ≡ None → stay_writes I p ≡ []

-- Where nothing is said the plan has a stay for each patient.
abbrev pub NobodyIsPassedOver : Draft → Timetable → Type 0
NobodyIsPassedOver I P =
    waiting_text I P ≡ [] → (p : ℕ) → p < patient_count I → (place : Placement) × (stay_of P p ≡ Some place)
