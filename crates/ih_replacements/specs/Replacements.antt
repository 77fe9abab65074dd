-- The best single replacement of each choice of a timetable.
use Rattle.std.specs.Prelude.{ℕ, ℤ, List, ◌∷◌, None}
use Rattle.ih_tables.specs.declared.drafts.Draft.{Draft}
use Rattle.ih_plan.specs.declared.moves.Write.{Write}
use Rattle.ih_plan.specs.declared.moves.Write.TheVariants.{SetStay, SetCare}
use Rattle.ih_plan.specs.Timetable.{Timetable}
use Rattle.ih_fill.specs.Fill.{write_score}
use Rattle.ih_fill.specs.declared.candidates.Candidate.{Candidate}
use Rattle.ih_fill.specs.declared.choices.Choice.{Choice}
use Rattle.ih_fill.specs.declared.choices.Choice.TheVariants.{Nurse, Stay}
use Rattle.ih_fill.specs.Candidates.{care_writes, cheapest, stay_writes, valued}

-- the write by which nothing is chosen
abbrev pub clearing : Choice → Write
clearing (Stay p) = SetStay p None
clearing (Nurse r k) = SetCare r k None

-- the writes by which something is: a patient's stays by day, room and theatre; the nurses who work the shift, rising
abbrev pub setting_writes : Draft → Choice → List Write
setting_writes I (Stay p) = stay_writes I p.0
setting_writes I (Nurse r k) = care_writes I r.0 k.0

-- the writes that may replace the choice
abbrev pub replacements : Draft → Choice → List Write
replacements I c = clearing c ∷ setting_writes I c

-- what a write changes in the score
abbrev pub value_of : Draft → ℕ → Timetable → Write → ℤ
value_of I hard P w = write_score I hard (λ b. b) P w

-- the replacement of least value, the first on a tie
unfoldable pub best_write : Draft → ℕ → Timetable → Choice → Write
best_write I hard P c = cheapest (value_of I hard P) (clearing c) (setting_writes I c)

-- the replacement of least value, the first on a tie, with that value
abbrev pub best_of : Draft → ℕ → Timetable → Choice → Candidate
best_of I hard P c = valued (value_of I hard P) (best_write I hard P c)
