-- What patients' stays cost by themselves.
use Rattle.std.specs.Prelude.{ℕ, ◌&&◌, not, is_none, Option}
use Rattle.ih_tables.specs.declared.drafts.Draft.{Draft}
use Rattle.ih_tables.specs.declared.drafts.Patient.{Patient}
use Rattle.ih_plan.specs.declared.moves.Placement.{Placement}
use Rattle.ih_plan.specs.Timetable.{Timetable}
use Rattle.ih_plan.specs.BillOf.{bad_rooms, mandatory_left_out, outside_windows, delays, optional_left_out}
use Rattle.ih_plan.specs.Costs.{in_bad_room, outside_window, delay}
use Rattle.ih_plan.specs.Sums.{bit}
use Rattle.ih_validate.specs.declared.patients.StayCost.{StayCost}
use Rattle.ih_validate.specs.declared.patients.StayCost.TheVariants.{BadRoom, MandatoryLeftOut, OutsideWindow, Delay, OptionalLeftOut}

-- of one patient with a stay, or with none
abbrev pub cost_of : StayCost → Patient → Option Placement → ℕ
cost_of BadRoom p stay = bit (in_bad_room p stay)
cost_of MandatoryLeftOut p stay = bit (p.mandatory && is_none stay)
cost_of OutsideWindow p stay = bit (outside_window p stay)
cost_of Delay p stay = delay p stay
cost_of OptionalLeftOut p stay = bit (not p.mandatory && is_none stay)

-- of all patients
abbrev pub cost_of_stays : Draft → Timetable → StayCost → ℕ
cost_of_stays I P BadRoom = bad_rooms I P
cost_of_stays I P MandatoryLeftOut = mandatory_left_out I P
cost_of_stays I P OutsideWindow = outside_windows I P
cost_of_stays I P Delay = delays I P
cost_of_stays I P OptionalLeftOut = optional_left_out I P
