-- The cells of a footprint, piece by piece.
use Rattle.std.specs.Prelude.{ℕ, ◌==◌, ◌&&◌, Bool, false, List, Option}
use Rattle.ih_tables.specs.declared.cells.Cell.{Cell}
use Rattle.ih_tables.specs.declared.cells.Cell.TheVariants.{RoomDay, RoomShift, NurseShift, Care}
use Rattle.ih_plan.specs.Timetable.{Timetable, care_of}
use Rattle.ih_plan.specs.Presence.{day_of, in_span}
use Rattle.ih_plan.specs.Costs.{is_number}
use Rattle.ih_plan.specs.Sums.{is_listed}

-- room r in shift k, and the shift of its nurse
unfoldable pub in_shift : Timetable → ℕ → ℕ → Cell → Bool
in_shift P r k (RoomShift s l) = (r == s.0) && (k == l.0)
in_shift P r k (NurseShift n l) = is_number (care_of P r k) n.0 && (k == l.0)
in_shift P r k c = false

-- room r on the days from a on and before b and in their shifts, and the shifts of its nurses
unfoldable pub in_days : Timetable → ℕ → ℕ → ℕ → Cell → Bool
in_days P r a b (RoomDay s d) = (r == s.0) && in_span a b d.0
in_days P r a b (RoomShift s k) = (r == s.0) && in_span a b (day_of k.0)
in_days P r a b (NurseShift n k) = is_number (care_of P r k.0) n.0 && in_span a b (day_of k.0)
in_days P r a b c = false

-- room r on the days from a on and before b
unfoldable pub in_room_days : ℕ → ℕ → ℕ → Cell → Bool
in_room_days r a b (RoomDay s d) = (r == s.0) && in_span a b d.0
in_room_days r a b c = false

-- room r in the shifts from a on and before b
unfoldable pub in_room_shifts : ℕ → ℕ → ℕ → Cell → Bool
in_room_shifts r a b (RoomShift s k) = (r == s.0) && in_span a b k.0
in_room_shifts r a b c = false

-- the shifts of that room's nurses
unfoldable pub in_nurse_shifts : Timetable → ℕ → ℕ → ℕ → Cell → Bool
in_nurse_shifts P r a b (NurseShift n k) = is_number (care_of P r k.0) n.0 && in_span a b k.0
in_nurse_shifts P r a b c = false

-- the nurses of these persons
unfoldable pub in_cares : List ℕ → Cell → Bool
in_cares xs (Care x) = is_listed x.0 xs
in_cares xs c = false

-- the shift of a nurse, where there is one
unfoldable pub in_nurse : Option ℕ → ℕ → Cell → Bool
in_nurse n k (NurseShift m l) = is_number n m.0 && (k == l.0)
in_nurse n k c = false
