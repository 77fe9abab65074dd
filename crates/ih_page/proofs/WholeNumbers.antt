-- The numbers of a page's data are whole.
use Rattle.std.proofs.Common.{◌≡◌, refl, Bool, false, List, [], ◌∷◌, map}
use Rattle.std.specs.Prelude.{ℤ, pos, negsuc, ◌||◌, Option, Some, None}
use Rattle.serde_json.specs.Data.{Data, number}
use Rattle.serde_json.specs.Find.{of_integer}
use Rattle.serde_json.specs.View.{items_of}
use Rattle.serde_json.specs.Written.{has_float, items_have_float}
use Rattle.jiff.specs.Types.{Date}
use Rattle.ih_tables.specs.declared.drafts.Draft.{Draft}
use Rattle.ih_plan.specs.Timetable.{Timetable}
use Rattle.ih_page.specs.Changes.{changes_data, room_data as room_changes}
use Rattle.ih_page.specs.Findings.{findings_data, line_data}
use Rattle.ih_values.specs.InstanceData.{instance_data, person_data, persons_data, places_data, staff_data, window_data}
use Rattle.ih_page.specs.Page.{HeadingTexts, heading_data, page_data, plan_data}
use Rattle.ih_page.specs.TimetableData.{bill_data, room_data as room_care}
use Rattle.ih_values.specs.Values.{option_data}
use Rattle.ih_page.specs.Waits.{admission_data, wait_data}

-- ---- what has no float, if its parts have none

both : (a b : Bool) → a ≡ false → b ≡ false → (a || b) ≡ false
both a b h k = rw (h, k) refl

each : {A : Type 0} (f : A → Data) (xs : List A) → ((x : A) → has_float (f x) ≡ false) → items_have_float (items_of (map f xs)) ≡ false
each f [] h = refl
each f (x ∷ xs) h = rw (h x) (each f xs h)

choice : {A : Type 0} (f : A → Data) (o : Option A) → ((x : A) → has_float (f x) ≡ false) → has_float (option_data f o) ≡ false
choice f None h = refl
choice f (Some x) h = h x

signed : (z : ℤ) → has_float (number (of_integer z)) ≡ false
signed (pos n) = refl
signed (negsuc n) = refl

-- ---- the whole

pub page-float : (h : HeadingTexts) (I : Draft) (first : Option Date) (older : Option Timetable) (P : Timetable) → has_float (page_data h I first older P) ≡ false
unfolding page_data heading_data instance_data persons_data person_data window_data places_data staff_data plan_data room_care wait_data admission_data bill_data changes_data room_changes findings_data line_data
page-float h I first older P = search (both, each, choice, signed) depth 30 fits 4000

pub ruleset whole_numbers = page-float
