-- The laws of mends: what a line says of its change is so, and no broken rule is passed over.
use Rattle.std.specs.Prelude.{◌≡◌, ℕ, pos, ◌<◌, ◌<ℤ◌, ◌≤ℤ◌, ◌+ℤ◌, [], Some, None, filter, slice_get}
use Rattle.ih_tables.specs.declared.drafts.Draft.{Draft}
use Rattle.ih_tables.specs.Bills.{at, cost}
use Rattle.ih_plan.specs.declared.limits.TheConstants.{MAX_HARD}
use Rattle.ih_plan.specs.BillOf.{bill_of}
use Rattle.ih_plan.specs.Timetable.{Timetable}
use Rattle.ih_plan.specs.Writes.{put}
use Rattle.ih_fill.specs.declared.candidates.Candidate.{Candidate}
use Rattle.ih_fill.specs.declared.choices.Choice.{Choice}
use Rattle.ih_fill.specs.Choices.{all_choices}
use Rattle.ih_fill.specs.FirstLeast.{IsFirstLeastOf}
use Rattle.ih_replacements.specs.Replacements.{best_write, value_of}
use Rattle.ih_mends.specs.Mends.{best_changes, breaches, change_by, lowers, mend}
use Rattle.ih_mends.specs.Texts.{mends_text}

-- What is said of a mend is true of the timetable with it.
pub record MendsAreTrue (I : Draft) (P : Timetable) : Type 0 where
  -- the rule is broken less
  pub lower : (k : ℕ) (c : Candidate) → k < 9 → mend I P k ≡ Some c
      → at (bill_of I (put c.write P)).v k <ℤ breaches I P k
  -- of the best replacements that lower the rule's number it is the first of least score
  pub least : (k : ℕ) (c : Candidate) → mend I P k ≡ Some c
      → IsFirstLeastOf (value_of I MAX_HARD P) (filter (lowers I P k) (best_changes I P)) c.write
  -- the cost is the plan's and what is said to be added
  pub priced : (c : Candidate)
      → cost I.weights (bill_of I (put c.write P))
      ≡ cost I.weights (bill_of I P) +ℤ cost I.weights (change_by I P c.write)
  -- where none is said, no choice's best replacement lowers the rule's number
  pub none : (k i : ℕ) (c : Choice) → mend I P k ≡ None → slice_get (all_choices I) i ≡ Some c
      → pos 0 ≤ℤ at (change_by I P (best_write I MAX_HARD P c)).v k

-- Where nothing is said no rule is broken.
abbrev pub NoRuleIsPassedOver : Draft → Timetable → Type 0
NoRuleIsPassedOver I P = mends_text I P ≡ [] → (k : ℕ) → k < 9 → breaches I P k ≤ℤ pos 0
