-- The page of a timetable: one JSON value, in a template that draws it.
use Rattle.std.specs.Prelude.{ℕ, List, [], ◌∷◌, Option, codes, option_map, unsigned_abs}
use Rattle.serde_json.specs.Data.{Data, string, object, no_members, member}
use Rattle.serde_json.specs.Written.{compact_text}
use Rattle.jiff.specs.Types.{Date}
use Rattle.ih_tables.specs.declared.drafts.Draft.{Draft}
use Rattle.ih_plan.specs.BillOf.{bill_of}
use Rattle.ih_plan.specs.Timetable.{Timetable}
use Rattle.ih_solution.specs.Solution.{list_data}
use Rattle.ih_page.specs.declared.pages.Heading.{Heading}
use Rattle.ih_page.specs.Changes.{changes_data}
use Rattle.ih_template.specs.Filling.{in_template}
use Rattle.ih_page.specs.Findings.{findings_data}
use Rattle.ih_values.specs.InstanceData.{instance_data}
use Rattle.ih_page.specs.TimetableData.{bill_data, care_data, stays_data}
use Rattle.ih_values.specs.Values.{numbers_data, option_data}
use Rattle.ih_page.specs.Waits.{waits_data}

-- what stands over a page: its title, and the names of the files that it was made from
pub record HeadingTexts : Type 0 where
  pub title : List ℕ
  pub instance : List ℕ
  pub solution : List ℕ
  -- the older solution's
  pub older : Option (List ℕ)

abbrev pub heading_texts : Heading → HeadingTexts
heading_texts h = record {
  title = h.title.now;
  instance = h.instance.now;
  solution = h.solution.now;
  older = option_map (λ t. t.now) h.older;
}

unfoldable pub heading_data : HeadingTexts → Data
heading_data h = object
    (member (codes "instance") (string h.instance)
    (member (codes "older") (option_data string h.older)
    (member (codes "solution") (string h.solution)
    (member (codes "title") (string h.title) no_members))))

-- the year, the month and the day
abbrev pub date_data : Date → Data
date_data d = numbers_data (unsigned_abs d.year ∷ d.month ∷ d.day ∷ [])

-- the timetable: every room's nurses, every patient's stay, and who waits
unfoldable pub plan_data : Draft → Timetable → Data
plan_data I P = object
    (member (codes "care") (list_data (care_data I P))
    (member (codes "stays") (list_data (stays_data I P))
    (member (codes "waits") (list_data (waits_data I P)) no_members)))

-- All that a page shows: what stands over it, the date of the first day, the instance, the timetable with its bill and
-- what that is made of, and what changed since an older timetable; null where there is no date or no older timetable.
unfoldable pub page_data : HeadingTexts → Draft → Option Date → Option Timetable → Timetable → Data
page_data h I first older P = object
    (member (codes "bill") (bill_data I.weights (bill_of I P))
    (member (codes "changes") (option_data (changes_data I P) older)
    (member (codes "findings") (findings_data I P)
    (member (codes "first") (option_data date_data first)
    (member (codes "heading") (heading_data h)
    (member (codes "instance") (instance_data I)
    (member (codes "plan") (plan_data I P) no_members)))))))

-- the page: the data inside the template
unfoldable pub page_of : HeadingTexts → Draft → Option Date → Option Timetable → Timetable → List ℕ
page_of h I first older P = in_template (compact_text (page_data h I first older P))
