-- Moves and cells by their names and numbers.
use Rattle.std.specs.Prelude.{ℕ, ◌==◌, List, [], ◌∷◌, length, slice_index, codes, All, ◌<◌, ◌^◌, Option, Some, None, if◌then◌else◌}
use Rattle.std.specs.Str.{bytes_eq}
use Rattle.ih_tables.specs.declared.cells.Cell.{Cell}
use Rattle.ih_tables.specs.declared.cells.Cell.TheVariants.{Stay, RoomDay, TheatreDay, SurgeonDay, RoomShift, NurseShift, Care}
use Rattle.ih_plan.specs.declared.moves.Move.{Move}
use Rattle.ih_plan.specs.declared.moves.Move.TheVariants.{Idle, Place, Withdraw, SetDay, SetRoom, SetTheatre, SwapRooms, Nurse, NurseRun, SwapNurses}

-- the name that a move's text begins with
abbrev pub move_name : Move → List ℕ
move_name Idle = codes "idle"
move_name (Place p at) = codes "place"
move_name (Withdraw p) = codes "withdraw"
move_name (SetDay p d) = codes "setday"
move_name (SetRoom p r) = codes "setroom"
move_name (SetTheatre p t) = codes "settheatre"
move_name (SwapRooms p q) = codes "swaprooms"
move_name (Nurse r k n) = codes "nurse"
move_name (NurseRun n r d len) = codes "nurserun"
move_name (SwapNurses k a b) = codes "swapnurses"

-- the numbers that stand behind it
abbrev pub move_numbers : Move → List ℕ
move_numbers Idle = []
move_numbers (Place p at) = p.0 ∷ at.day.0 ∷ at.room.0 ∷ at.theatre.0 ∷ []
move_numbers (Withdraw p) = p.0 ∷ []
move_numbers (SetDay p d) = p.0 ∷ d.0 ∷ []
move_numbers (SetRoom p r) = p.0 ∷ r.0 ∷ []
move_numbers (SetTheatre p t) = p.0 ∷ t.0 ∷ []
move_numbers (SwapRooms p q) = p.0 ∷ q.0 ∷ []
move_numbers (Nurse r k n) = r.0 ∷ k.0 ∷ n.0 ∷ []
move_numbers (NurseRun n r d len) = n.0 ∷ r.0 ∷ d.0 ∷ len ∷ []
move_numbers (SwapNurses k a b) = k.0 ∷ a.0 ∷ b.0 ∷ []

-- the name and the numbers of a cell
abbrev pub cell_name : Cell → List ℕ
cell_name (Stay p) = codes "stay"
cell_name (RoomDay r d) = codes "roomday"
cell_name (TheatreDay t d) = codes "theatreday"
cell_name (SurgeonDay s d) = codes "surgeonday"
cell_name (RoomShift r k) = codes "roomshift"
cell_name (NurseShift n k) = codes "nurseshift"
cell_name (Care x) = codes "care"

abbrev pub cell_numbers : Cell → List ℕ
cell_numbers (Stay p) = p.0 ∷ []
cell_numbers (RoomDay r d) = r.0 ∷ d.0 ∷ []
cell_numbers (TheatreDay t d) = t.0 ∷ d.0 ∷ []
cell_numbers (SurgeonDay s d) = s.0 ∷ d.0 ∷ []
cell_numbers (RoomShift r k) = r.0 ∷ k.0 ∷ []
cell_numbers (NurseShift n k) = n.0 ∷ k.0 ∷ []
cell_numbers (Care x) = x.0 ∷ []

-- numbers of at most 32 bits
abbrev pub AreShort : List ℕ → Type 0
AreShort ns = All (λ n. n < 2 ^ 32) ns

-- what has this name in a table
abbrev pub by_name : {A : Type 0} → List ℕ → List (List ℕ × A) → Option A
by_name name [] = None
by_name name (e ∷ es) = if bytes_eq name e.0 then Some e.1 else by_name name es

-- the moves with one number, by name; with two numbers, three and four
abbrev pub moves_of_one : ℕ → List (List ℕ × Move)
moves_of_one a = (codes "withdraw", Withdraw (record { 0 = a })) ∷ []

abbrev pub moves_of_two : ℕ → ℕ → List (List ℕ × Move)
moves_of_two a b =
    (codes "setday", SetDay (record { 0 = a }) (record { 0 = b }))
    ∷ (codes "setroom", SetRoom (record { 0 = a }) (record { 0 = b }))
    ∷ (codes "settheatre", SetTheatre (record { 0 = a }) (record { 0 = b }))
    ∷ (codes "swaprooms", SwapRooms (record { 0 = a }) (record { 0 = b })) ∷ []

abbrev pub moves_of_three : ℕ → ℕ → ℕ → List (List ℕ × Move)
moves_of_three a b c =
    (codes "nurse", Nurse (record { 0 = a }) (record { 0 = b }) (record { 0 = c }))
    ∷ (codes "swapnurses", SwapNurses (record { 0 = a }) (record { 0 = b }) (record { 0 = c })) ∷ []

abbrev pub moves_of_four : ℕ → ℕ → ℕ → ℕ → List (List ℕ × Move)
moves_of_four a b c d = (
  codes "place",
  Place (record { 0 = a }) (record { day = record { 0 = b }; room = record { 0 = c }; theatre = record { 0 = d } }),
)
    ∷ (codes "nurserun", NurseRun (record { 0 = a }) (record { 0 = b }) (record { 0 = c }) d) ∷ []

-- the move with a name and numbers
unfoldable pub move_named : List ℕ → List ℕ → Option Move
move_named name ns =
    if length ns == 1 then by_name name (moves_of_one (slice_index ns 0))
    else if length ns == 2 then by_name name (moves_of_two (slice_index ns 0) (slice_index ns 1))
    else if length ns == 3 then by_name name (moves_of_three (slice_index ns 0) (slice_index ns 1) (slice_index ns 2))
    else if length ns == 4
    then by_name name (moves_of_four (slice_index ns 0) (slice_index ns 1) (slice_index ns 2) (slice_index ns 3))
    else None

-- the cells with one number, and with two
abbrev pub cells_of_one : ℕ → List (List ℕ × Cell)
cells_of_one a = (codes "stay", Stay (record { 0 = a })) ∷ (codes "care", Care (record { 0 = a })) ∷ []

abbrev pub cells_of_two : ℕ → ℕ → List (List ℕ × Cell)
cells_of_two a b =
    (codes "roomday", RoomDay (record { 0 = a }) (record { 0 = b }))
    ∷ (codes "theatreday", TheatreDay (record { 0 = a }) (record { 0 = b }))
    ∷ (codes "surgeonday", SurgeonDay (record { 0 = a }) (record { 0 = b }))
    ∷ (codes "roomshift", RoomShift (record { 0 = a }) (record { 0 = b }))
    ∷ (codes "nurseshift", NurseShift (record { 0 = a }) (record { 0 = b })) ∷ []

-- the cell with a name and numbers
unfoldable pub cell_named : List ℕ → List ℕ → Option Cell
cell_named name ns =
    if length ns == 1 then by_name name (cells_of_one (slice_index ns 0))
    else if length ns == 2 then by_name name (cells_of_two (slice_index ns 0) (slice_index ns 1))
    else None
