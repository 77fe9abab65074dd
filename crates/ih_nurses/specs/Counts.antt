-- How many counted shifts of each person's stay each nurse has, as a table.
use Rattle.std.specs.Prelude.{◌≡◌, ◌<◌, ℕ, ◌+◌, ◌*◌, ◌==◌, ◌&&◌, List, length, Option, Some, None, slice_index_or, option_map}
use Rattle.ih_tables.specs.declared.drafts.Draft.{Draft}
use Rattle.ih_tables.specs.declared.ids.NurseNo.{NurseNo}
use Rattle.ih_tables.specs.Sizes.{person_count, nurse_count}
use Rattle.ih_plan.specs.Timetable.{Timetable, care_of}
use Rattle.ih_plan.specs.Persons.{person_of}
use Rattle.ih_plan.specs.Presence.{admission_of}
use Rattle.ih_plan.specs.Costs.{is_number}
use Rattle.ih_plan.specs.Sums.{bit, count_below}
use Rattle.ih_nurses.specs.declared.shift_spans.ShiftSpan.{ShiftSpan}
use Rattle.ih_nurses.specs.ShiftSpans.{shift_span_in}

-- how many of a stay's counted shifts nurse n has
abbrev pub nursed_in : Timetable → Option ShiftSpan → ℕ → ℕ
nursed_in P None n = 0
nursed_in P (Some s) n = count_below s.len (λ j. is_number (care_of P s.room.0 (s.from + j)) n)

-- how many of the counted shifts of person x's stay nurse n has
abbrev pub count_of : Draft → Timetable → ℕ → ℕ → ℕ
count_of I P x n = nursed_in P (shift_span_in I (admission_of I P x) (person_of I x).length_of_stay) n

-- what the table has for person x and nurse n
abbrev pub count_at : Draft → List ℕ → ℕ → ℕ → ℕ
count_at I counts x n = slice_index_or counts (x * nurse_count I + n) 0

-- 1 for person x and the nurse, where there is one, and 0 for all others
abbrev pub one_of : ℕ → Option NurseNo → ℕ → ℕ → ℕ
one_of x n y m = bit ((x == y) && is_number (option_map (λ (a : NurseNo). a.0) n) m)

-- 1 where there is a nurse to whom the table has this count of person x's shifts, and 0 where not
abbrev pub has_just : Draft → List ℕ → ℕ → Option NurseNo → ℕ → ℕ
has_just I counts shifts None x = 0
has_just I counts shifts (Some a) x = bit (count_at I counts x a.0 == shifts)

-- The table has each nurse's count for each person.
pub record AreCounts (I : Draft) (P : Timetable) (counts : List ℕ) : Type 0 where
  pub len : length counts ≡ person_count I * nurse_count I
  pub each : (x n : ℕ) → x < person_count I → n < nurse_count I → count_at I counts x n ≡ count_of I P x n
