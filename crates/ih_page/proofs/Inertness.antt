-- The data of a page has none of the signs < > and &.
use Rattle.std.proofs.Common.{refl}
use Rattle.std.specs.Prelude.{Option}
use Rattle.serde_json.specs.Written.{compact_text}
use Rattle.jiff.specs.Types.{Date}
use Rattle.ih_tables.specs.declared.drafts.Draft.{Draft}
use Rattle.ih_plan.specs.Timetable.{Timetable}
use Rattle.ih_template.specs.Escapes.{escaped}
use Rattle.ih_template.proofs.Inertness.{escaped-inert}
use Rattle.ih_page.specs.Laws.{DataIsInert}
use Rattle.ih_page.specs.Page.{HeadingTexts, page_data, page_of}

pub data-inert : (h : HeadingTexts) (I : Draft) (first : Option Date) (older : Option Timetable) (P : Timetable) → DataIsInert h I first older P
unfolding page_of
data-inert h I first older P =
    let text = compact_text (page_data h I first older P) in
    record { inside = escaped text; page = refl; inert = escaped-inert text }
