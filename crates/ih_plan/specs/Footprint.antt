-- What a move touches: the cells whose contents its writes may change or its price rests on.
use Rattle.std.specs.Prelude.{ℕ, ◌==◌, ◌&&◌, ◌||◌, not, Bool, false, List, [], ◌∷◌, Option, Some, None, option_map}
use Rattle.ih_tables.specs.declared.drafts.Draft.{Draft}
use Rattle.ih_tables.specs.declared.ids.NurseNo.{NurseNo}
use Rattle.ih_tables.specs.declared.cells.Cell.{Cell}
use Rattle.ih_tables.specs.declared.cells.Cell.TheVariants.{Stay, RoomDay, TheatreDay, SurgeonDay, RoomShift, NurseShift, Care}
use Rattle.ih_plan.specs.declared.moves.Placement.{Placement}
use Rattle.ih_plan.specs.declared.moves.Write.{Write}
use Rattle.ih_plan.specs.declared.moves.Write.TheVariants.{SetStay, SetCare}
use Rattle.ih_plan.specs.declared.moves.Move.{Move}
use Rattle.ih_plan.specs.declared.moves.Move.TheVariants.{Idle, Place, Withdraw, SetDay, SetRoom, SetTheatre, SwapRooms, Nurse, NurseRun, SwapNurses}
use Rattle.ih_plan.specs.Timetable.{Timetable, stay_of, care_of}
use Rattle.ih_plan.specs.Persons.{person_of}
use Rattle.ih_plan.specs.Presence.{day_of, covers, is_present}
use Rattle.ih_plan.specs.Costs.{surgeon_of, is_number}
use Rattle.ih_plan.specs.Expand.{expand}
use Rattle.ih_plan.specs.Writes.{put}
use Rattle.ih_plan.specs.Cells.{cell_count, cell_at}
use Rattle.ih_plan.specs.Sums.{which_below}

-- the cells of a placement of patient p at a timetable: its room on each of its days and shifts, the loads of the
-- nurses there, and its theatre and surgeon on the day of admission
unfoldable pub in_placement : Draft → Timetable → ℕ → Placement → Cell → Bool
in_placement I P p at (Stay q) = false
in_placement I P p at (RoomDay r d) = (at.room.0 == r.0) && covers at.day.0 (person_of I p).length_of_stay d.0
in_placement I P p at (TheatreDay t d) = (at.theatre.0 == t.0) && (at.day.0 == d.0)
in_placement I P p at (SurgeonDay s d) = is_number (surgeon_of I p) s.0 && (at.day.0 == d.0)
in_placement I P p at (RoomShift r k) =
    (at.room.0 == r.0) && covers at.day.0 (person_of I p).length_of_stay (day_of k.0)
in_placement I P p at (NurseShift n k) =
    is_number (care_of P at.room.0 k.0) n.0 && covers at.day.0 (person_of I p).length_of_stay (day_of k.0)
in_placement I P p at (Care x) = false

-- the cells of a stay, where there is one
abbrev pub in_stay : Draft → Timetable → ℕ → Option Placement → Cell → Bool
in_stay I P p None c = false
in_stay I P p (Some at) c = in_placement I P p at c

-- the cell of patient p's stay
abbrev pub is_stay : ℕ → Cell → Bool
is_stay p (Stay q) = p == q.0
is_stay p (RoomDay r d) = false
is_stay p (TheatreDay t d) = false
is_stay p (SurgeonDay s d) = false
is_stay p (RoomShift r k) = false
is_stay p (NurseShift n k) = false
is_stay p (Care x) = false

-- the cells of patient p's own stay and nurses
abbrev pub is_own : ℕ → Cell → Bool
is_own p (Care x) = p == x.0
is_own p c = is_stay p c

-- the cells of a choice of nurse for room r and shift k: that room and shift, the loads of the old nurse and the new,
-- and the nurses of all who are present
unfoldable pub in_choice : Draft → Timetable → ℕ → ℕ → Option ℕ → Cell → Bool
in_choice I P r k n (Stay q) = false
in_choice I P r k n (RoomDay s d) = false
in_choice I P r k n (TheatreDay t d) = false
in_choice I P r k n (SurgeonDay s d) = false
in_choice I P r k n (RoomShift s l) = (r == s.0) && (k == l.0)
in_choice I P r k n (NurseShift m l) = (k == l.0) && (is_number (care_of P r k) m.0 || is_number n m.0)
in_choice I P r k n (Care x) = is_present I P r (day_of k) x.0

-- the footprint of a write
abbrev pub write_touches : Draft → Timetable → Write → Cell → Bool
write_touches I P (SetStay p new) c = is_own p.0 c || in_stay I P p.0 (stay_of P p.0) c || in_stay I P p.0 new c
write_touches I P (SetCare r k n) c = in_choice I P r.0 k.0 (option_map (λ (m : NurseNo). m.0) n) c

-- the footprints of writes in a row, each at the timetable where it is made
unfoldable pub writes_touch : Draft → Timetable → List Write → Cell → Bool
writes_touch I P [] c = false
writes_touch I P (w ∷ ws) c = write_touches I P w c || writes_touch I (put w P) ws c

-- the cell of room r in shift k
abbrev pub is_room_shift : ℕ → ℕ → Cell → Bool
is_room_shift r k (Stay q) = false
is_room_shift r k (RoomDay s d) = false
is_room_shift r k (TheatreDay t d) = false
is_room_shift r k (SurgeonDay s d) = false
is_room_shift r k (RoomShift s l) = (r == s.0) && (k == l.0)
is_room_shift r k (NurseShift n l) = false
is_room_shift r k (Care x) = false

-- the cells that the writes of a move are found from
unfoldable pub looks_at : Move → Cell → Bool
looks_at Idle c = false
looks_at (Place p at) c = false
looks_at (Withdraw p) c = is_stay p.0 c
looks_at (SetDay p d) c = is_stay p.0 c
looks_at (SetRoom p r) c = is_stay p.0 c
looks_at (SetTheatre p t) c = is_stay p.0 c
looks_at (SwapRooms p q) c = not (p.0 == q.0) && (is_stay p.0 c || is_stay q.0 c)
looks_at (Nurse r k n) c = false
looks_at (NurseRun n r d len) c = false
looks_at (SwapNurses k a b) c = not (a.0 == b.0) && (is_room_shift a.0 k.0 c || is_room_shift b.0 k.0 c)

-- the footprint of a move
unfoldable pub touches : Draft → Timetable → Move → Cell → Bool
touches I P m c = writes_touch I P (expand I P m) c || looks_at m c

-- the numbers of its cells, rising
unfoldable pub footprint : Draft → Timetable → Move → List ℕ
footprint I P m = which_below (cell_count I) (λ n. touches I P m (cell_at I n))
