-- Lists of patients by the days of theatres or of surgeons, and what they tell.
use Rattle.std.specs.Prelude.{◌≡◌, ℕ, ◌+◌, ◌*◌, List, Option, Some, None, length, option_map, slice_index, slice_index_or}
use Rattle.ih_tables.specs.declared.drafts.Draft.{Draft}
use Rattle.ih_tables.specs.declared.ids.TheatreNo.{TheatreNo}
use Rattle.ih_tables.specs.Sizes.{patient_count}
use Rattle.ih_links.specs.Lists.{AreNodes, LinksState, list_of, has, is_at}
use Rattle.ih_plan.specs.declared.moves.Placement.{Placement}
use Rattle.ih_plan.specs.Costs.{minutes}

-- the number of a day of theatre or surgeon n
abbrev pub day_number : Draft → ℕ → ℕ → ℕ
day_number I n d = n * I.days + d

-- the theatre's day of a stay
abbrev pub theatre_day : Draft → Option Placement → Option ℕ
theatre_day I None = None
theatre_day I (Some at) = Some (day_number I at.theatre.0 at.day.0)

-- the surgeon's day of a stay
abbrev pub surgeon_day : Draft → Option ℕ → Option Placement → Option ℕ
surgeon_day I s None = None
surgeon_day I None (Some at) = None
surgeon_day I (Some s) (Some at) = Some (day_number I s at.day.0)

-- There is a list of patients for each day of n theatres or surgeons,
-- and each patient is in the list of the patient's day, once, and in no other.
pub record AreDays (I : Draft) (n : ℕ) (day : ℕ → Option ℕ) (v : LinksState) : Type 0 where
  pub heads : length v.lists ≡ n * I.days
  pub nodes : v.nodes ≡ patient_count I
  pub each : (h x : ℕ) → has x (list_of v h) ≡ is_at h (day x)
  pub known : (h : ℕ) → AreNodes (patient_count I) (list_of v h)

-- For each list, the minutes of surgery of its patients.
pub record AreMinutes (I : Draft) (v : LinksState) (kept : List ℕ) : Type 0 where
  pub len : length kept ≡ length v.lists
  pub sums : (h : ℕ) → slice_index kept h ≡ minutes I (list_of v h)

-- the theatre of patient p, in the list of all patients' theatres
abbrev pub theatre_at : List (Option TheatreNo) → ℕ → Option ℕ
theatre_at theatres p = option_map (λ (t : TheatreNo). t.0) (slice_index_or theatres p None)
