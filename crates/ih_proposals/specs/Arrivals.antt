-- A patient who comes, and where those go who are in the way.
use Rattle.std.specs.Prelude.{◌<◌}
use Rattle.ih_tables.specs.declared.drafts.Draft.{Draft}
use Rattle.ih_tables.specs.Sizes.{patient_count, room_count}
use Rattle.ih_plan.specs.Timetable.{IsPlacement}
use Rattle.ih_proposals.specs.declared.arrivals.Arrival.{Arrival}
use Rattle.ih_proposals.specs.declared.arrivals.Exit.{Exit}
use Rattle.ih_proposals.specs.declared.arrivals.Exit.TheVariants.{Out, To}

-- The room is in range.
abbrev pub IsExit : Draft → Exit → Type 0
IsExit I Out = Unit {0}
IsExit I (To room) = room.0 < room_count I

-- All are in range.
pub record IsArrival (I : Draft) (a : Arrival) : Type 0 where
  pub patient : a.patient.0 < patient_count I
  pub placement : IsPlacement I a.at
  pub exit : IsExit I a.exit
