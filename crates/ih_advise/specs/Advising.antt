-- What is advised on a timetable: the best single replacements that lower its score.
use Rattle.std.specs.Prelude.{ℕ, pos, int_lt, List, Option, Some, None, if◌then◌else◌, filter_map}
use Rattle.ih_tables.specs.declared.drafts.Draft.{Draft}
use Rattle.ih_plan.specs.declared.moves.Write.{Write}
use Rattle.ih_plan.specs.Timetable.{Timetable}
use Rattle.ih_plan.specs.Writes.{put}
use Rattle.ih_plan.specs.BillOf.{change_of_bill}
use Rattle.ih_fill.specs.declared.choices.Choice.{Choice}
use Rattle.ih_fill.specs.Choices.{all_choices}
use Rattle.ih_replacements.specs.Replacements.{best_write, value_of}
use Rattle.ih_advise.specs.declared.choosing.Advice.{Advice}

-- a write, by how much it changes the score, and what it changes in the bill
abbrev pub advised : Draft → ℕ → Timetable → Write → Advice
advised I hard P w = record { write = w; score = value_of I hard P w; price = change_of_bill I P (put w P) }

-- what is advised on a choice: its best write, where that lowers the score
unfoldable pub advice_on : Draft → ℕ → Timetable → Choice → Option Advice
advice_on I hard P c = if int_lt (value_of I hard P (best_write I hard P c)) (pos 0)
    then Some (advised I hard P (best_write I hard P c))
    else None

-- what is advised on a timetable, in the order of the choices
abbrev pub advice : Draft → ℕ → Timetable → List Advice
advice I hard P = filter_map (advice_on I hard P) (all_choices I)
