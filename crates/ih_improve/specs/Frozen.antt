-- Moves that may change a choice before the freeze day.
use Rattle.std.specs.Prelude.{ℕ, Bool, false, nat_lt, ◌||◌}
use Rattle.ih_plan.specs.declared.moves.Move.{Move}
use Rattle.ih_plan.specs.declared.moves.Move.TheVariants.{Idle, Place, Withdraw, SetDay, SetRoom, SetTheatre, SwapRooms, Nurse, NurseRun, SwapNurses}
use Rattle.ih_plan.specs.Presence.{day_of}
use Rattle.ih_plan.specs.Timetable.{Timetable, stay_of}
use Rattle.ih_plan.specs.Frozen.{is_before}

-- The move is of a patient whom the start admits before the freeze day, to a day before it, or of a nurse in a shift
-- before it. It goes by the start and the move alone, so it says yes of some moves that would change nothing there.
abbrev pub may_be_frozen : Timetable → ℕ → Move → Bool
may_be_frozen start freeze Idle = false
may_be_frozen start freeze (Place p at) = is_before freeze (stay_of start p.0) || nat_lt at.day.0 freeze
may_be_frozen start freeze (Withdraw p) = is_before freeze (stay_of start p.0)
may_be_frozen start freeze (SetDay p d) = is_before freeze (stay_of start p.0) || nat_lt d.0 freeze
may_be_frozen start freeze (SetRoom p r) = is_before freeze (stay_of start p.0)
may_be_frozen start freeze (SetTheatre p t) = is_before freeze (stay_of start p.0)
may_be_frozen start freeze (SwapRooms p q) =
    is_before freeze (stay_of start p.0) || is_before freeze (stay_of start q.0)
may_be_frozen start freeze (Nurse r k n) = nat_lt (day_of k.0) freeze
may_be_frozen start freeze (NurseRun n r d len) = nat_lt d.0 freeze
may_be_frozen start freeze (SwapNurses k a b) = nat_lt (day_of k.0) freeze
