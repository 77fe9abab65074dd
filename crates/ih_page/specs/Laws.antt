-- Laws of pages.
use Rattle.std.specs.Prelude.{◌≡◌, ◌≢◌, ◌↔◌, ◌<◌, ℕ, pos, true, Option, List, ◌++◌, sum_by}
use Rattle.std.specs.List.{AllByRecursion}
use Rattle.jiff.specs.Types.{Date}
use Rattle.ih_tables.specs.declared.drafts.Draft.{Draft}
use Rattle.ih_tables.specs.Sizes.{patient_count, shift_count}
use Rattle.ih_plan.specs.BillOf.{bill_of}
use Rattle.ih_plan.specs.Sums.{is_listed}
use Rattle.ih_plan.specs.Timetable.{Timetable, care_of, stay_of}
use Rattle.ih_page.specs.declared.findings.Line.{Line}
use Rattle.ih_template.specs.declared.template.TheConstants.{HEAD, TAIL}
use Rattle.ih_page.specs.Changes.{changed_patients, changed_shifts}
use Rattle.ih_page.specs.Findings.{IsLine, amount_at, findings_of, number_in}
use Rattle.ih_page.specs.Page.{HeadingTexts, page_of}

-- The findings of a number of the bill sum to it.
abbrev pub FindingsSum : Draft → Timetable → Type 0
FindingsSum I P = (l : Line) → IsLine l → pos (sum_by (amount_at I P l) (findings_of I P l)) ≡ number_in (bill_of I P) l

-- The changes are exactly the patients whose stays differ, and for each room exactly the shifts in which its nurse differs.
pub record ChangesAreListed (I : Draft) (O P : Timetable) : Type 0 where
  pub patients : (p : ℕ) → (is_listed p (changed_patients I O P) ≡ true) ↔ ((p < patient_count I) × (stay_of O p ≢ stay_of P p))
  pub shifts : (r k : ℕ) → (is_listed k (changed_shifts I O P r) ≡ true) ↔ ((k < shift_count I) × (care_of O r k ≢ care_of P r k))

-- Between the two parts of the template there is no sign that begins or ends a tag, or a name of HTML for a sign:
-- whatever the files hold, it stays inside its element.
pub record DataIsInert (h : HeadingTexts) (I : Draft) (first : Option Date) (older : Option Timetable) (P : Timetable) : Type 0 where
  pub inside : List ℕ
  pub page : page_of h I first older P ≡ HEAD.now ++ (inside ++ TAIL.now)
  pub inert : AllByRecursion (λ b. (b ≢ 60) × ((b ≢ 62) × (b ≢ 38))) inside
