-- Choices of the start that stay, whatever they cost or break, and moves that may change one.
use Rattle.std.specs.Prelude.{ℕ, Bool, false, ◌&&◌, ◌||◌, List, map}
use Rattle.std.specs.List.{list_any, range_with_len}
use Rattle.std.specs.Str.{bytes_eq}
use Rattle.ih_tables.specs.declared.drafts.Draft.{Draft}
use Rattle.ih_tables.specs.declared.drafts.Patient.{Patient}
use Rattle.ih_tables.specs.Marks.{is_marked}
use Rattle.ih_plan.specs.declared.moves.Move.{Move}
use Rattle.ih_plan.specs.declared.moves.Move.TheVariants.{Idle, Place, Withdraw, SetDay, SetRoom, SetTheatre, SwapRooms, Nurse, NurseRun, SwapNurses}
use Rattle.ih_plan.specs.Presence.{day_of}
use Rattle.ih_plan.specs.Kept.{Choices, KeepsChoices}
use Rattle.ih_plan.specs.Timetable.{Timetable}
use Rattle.ih_changes.specs.Changes.{is_occupied}

-- which choices are pinned: the stays of the patients whose flag is set, and the nurses of all rooms that are occupied in
-- the start
pub record PinsState : Type 0 where
  pub patients : List Bool
  pub nurses : Bool

-- the patients of these ids are pinned, and maybe the nurses
abbrev pub pins_of : Draft → List (List ℕ) → Bool → PinsState
pins_of I ids nurses =
    record { patients = map (λ (a : Patient). list_any (bytes_eq a.id) ids) I.patients; nurses = nurses }

-- the stay of patient p is pinned
abbrev pub is_pinned : PinsState → ℕ → Bool
is_pinned pins p = is_marked pins.patients p

-- the nurse of room r on day d is pinned
abbrev pub is_pinned_on : Draft → Timetable → PinsState → ℕ → ℕ → Bool
is_pinned_on I start pins r d = pins.nurses && is_occupied I start r d

-- the choices that are pinned
abbrev pub pinned_choices : Draft → Timetable → PinsState → Choices
pinned_choices I start pins = record { stays = is_pinned pins; nurses = λ r k. is_pinned_on I start pins r (day_of k) }

-- P agrees with the start on what is pinned
abbrev pub KeepsPinned : Draft → Timetable → PinsState → Timetable → Type 0
KeepsPinned I start pins P = KeepsChoices I start (pinned_choices I start pins) P

-- the nurse of room r on one of so many days from day d on is pinned
abbrev pub is_run_pinned : Draft → Timetable → PinsState → ℕ → ℕ → ℕ → Bool
is_run_pinned I start pins r d len = pins.nurses && list_any (is_occupied I start r) (range_with_len d len)

-- The move is of a patient who is pinned, or of a nurse in a room and on a day that is. It goes by the start and the move
-- alone, so it says yes of some moves that would change nothing there.
abbrev pub may_be_pinned : Draft → Timetable → PinsState → Move → Bool
may_be_pinned I start pins Idle = false
may_be_pinned I start pins (Place p at) = is_pinned pins p.0
may_be_pinned I start pins (Withdraw p) = is_pinned pins p.0
may_be_pinned I start pins (SetDay p d) = is_pinned pins p.0
may_be_pinned I start pins (SetRoom p r) = is_pinned pins p.0
may_be_pinned I start pins (SetTheatre p t) = is_pinned pins p.0
may_be_pinned I start pins (SwapRooms p q) = is_pinned pins p.0 || is_pinned pins q.0
may_be_pinned I start pins (Nurse r k n) = is_pinned_on I start pins r.0 (day_of k.0)
may_be_pinned I start pins (NurseRun n r d len) = is_run_pinned I start pins r.0 d.0 len
may_be_pinned I start pins (SwapNurses k a b) =
    is_pinned_on I start pins a.0 (day_of k.0) || is_pinned_on I start pins b.0 (day_of k.0)
