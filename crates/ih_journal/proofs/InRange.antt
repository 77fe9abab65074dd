-- Numbers in range of an instance have at most 32 bits.
use Rattle.std.proofs.Common.{ℕ, ◌<◌, ◌≤◌, ◌^◌, arith, [], ◌∷◌}
use Rattle.std.proofs.lemmas.List.Elements.{All-nil, All-cons}
use Rattle.ih_tables.specs.declared.drafts.Draft.{Draft}
use Rattle.ih_tables.specs.declared.cells.Cell.{Cell}
use Rattle.ih_tables.specs.declared.cells.Cell.TheVariants.{Stay, RoomDay, TheatreDay, SurgeonDay, RoomShift, NurseShift, Care}
use Rattle.ih_tables.specs.Sizes.{patient_count, occupant_count, room_count, theatre_count, surgeon_count, nurse_count}
use Rattle.ih_tables.specs.Valid.{IsValid}
use Rattle.ih_plan.specs.declared.moves.Move.{Move}
use Rattle.ih_plan.specs.declared.moves.Move.TheVariants.{Idle, Place, Withdraw, SetDay, SetRoom, SetTheatre, SwapRooms, Nurse, NurseRun, SwapNurses}
use Rattle.ih_plan.specs.Expand.{IsMoveOf}
use Rattle.ih_plan.specs.Cells.{IsCellOf}
use Rattle.ih_journal.specs.Names.{move_numbers, cell_numbers, AreShort}

-- how many there are of each thing at most
pub record IsLimited (I : Draft) : Type 0 where
  pub days : I.days ≤ 56
  pub patients : patient_count I ≤ 2048
  pub occupants : occupant_count I ≤ 512
  pub rooms : room_count I ≤ 128
  pub theatres : theatre_count I ≤ 64
  pub surgeons : surgeon_count I ≤ 128
  pub nurses : nurse_count I ≤ 512

pub limits : (I : Draft) → IsValid I → IsLimited I
limits I valid = record {
  days = valid.days.most;
  patients = valid.patients.len.most;
  occupants = valid.occupants.len.most;
  rooms = valid.rooms.len.most;
  theatres = valid.theatres.len.most;
  surgeons = valid.surgeons.len.most;
  nurses = valid.nurses.len.most;
}

short1 : (a : ℕ) → a < 2 ^ 32 → AreShort (a ∷ [])
short1 a ha = All-cons (λ k. k < 2 ^ 32) a [] ha (All-nil (λ k. k < 2 ^ 32))

short2 : (a b : ℕ) → a < 2 ^ 32 → b < 2 ^ 32 → AreShort (a ∷ b ∷ [])
short2 a b ha hb = All-cons (λ k. k < 2 ^ 32) a (b ∷ []) ha (short1 b hb)

short3 : (a b c : ℕ) → a < 2 ^ 32 → b < 2 ^ 32 → c < 2 ^ 32 → AreShort (a ∷ b ∷ c ∷ [])
short3 a b c ha hb hc = All-cons (λ k. k < 2 ^ 32) a (b ∷ c ∷ []) ha (short2 b c hb hc)

short4 : (a b c d : ℕ) → a < 2 ^ 32 → b < 2 ^ 32 → c < 2 ^ 32 → d < 2 ^ 32 → AreShort (a ∷ b ∷ c ∷ d ∷ [])
short4 a b c d ha hb hc hd = All-cons (λ k. k < 2 ^ 32) a (b ∷ c ∷ d ∷ []) ha (short3 b c d hb hc hd)

pub move_short : (I : Draft) (m : Move) → IsLimited I → IsMoveOf I m → AreShort (move_numbers m)
move_short I Idle l h = All-nil (λ k. k < 2 ^ 32)
move_short I (Place p at) l h = short4 p.0 at.day.0 at.room.0 at.theatre.0 (omega arith) (omega arith) (omega arith) (omega arith)
move_short I (Withdraw p) l h = short1 p.0 (omega arith)
move_short I (SetDay p d) l h = short2 p.0 d.0 (omega arith) (omega arith)
move_short I (SetRoom p r) l h = short2 p.0 r.0 (omega arith) (omega arith)
move_short I (SetTheatre p t) l h = short2 p.0 t.0 (omega arith) (omega arith)
move_short I (SwapRooms p q) l h = short2 p.0 q.0 (omega arith) (omega arith)
move_short I (Nurse r k n) l h = short3 r.0 k.0 n.0 (omega arith) (omega arith) (omega arith)
move_short I (NurseRun n r d len) l h = short4 n.0 r.0 d.0 len (omega arith) (omega arith) (omega arith) (omega arith)
move_short I (SwapNurses k a b) l h = short3 k.0 a.0 b.0 (omega arith) (omega arith) (omega arith)

pub cell_short : (I : Draft) (c : Cell) → IsLimited I → IsCellOf I c → AreShort (cell_numbers c)
cell_short I (Stay p) l h = short1 p.0 (omega arith)
cell_short I (RoomDay r d) l h = short2 r.0 d.0 (omega arith) (omega arith)
cell_short I (TheatreDay t d) l h = short2 t.0 d.0 (omega arith) (omega arith)
cell_short I (SurgeonDay s d) l h = short2 s.0 d.0 (omega arith) (omega arith)
cell_short I (RoomShift r k) l h = short2 r.0 k.0 (omega arith) (omega arith)
cell_short I (NurseShift n k) l h = short2 n.0 k.0 (omega arith) (omega arith)
cell_short I (Care x) l h = short1 x.0 (omega arith)
