-- The cells that a move looks at.
use Rattle.std.proofs.Common.{◌≡◌, ℕ, ◌<◌, refl, arith, true, false, inl, inr}
use Rattle.std.specs.Prelude.{not, ◌||◌, ◌==◌}
use Rattle.std.proofs.lemmas.Bool.{eqb-true, and_parts, or_cases, eq-eqb, ne_eqb, and_from, or_left}
use Rattle.ih_plan.specs.declared.moves.Move.{Move}
use Rattle.ih_plan.specs.declared.moves.Move.TheVariants.{Idle, Place, Withdraw, SetDay, SetRoom, SetTheatre, SwapRooms, Nurse, NurseRun, SwapNurses}
use Rattle.ih_tables.specs.declared.drafts.Draft.{Draft}
use Rattle.ih_tables.specs.declared.cells.Cell.{Cell}
use Rattle.ih_tables.specs.declared.cells.Cell.TheVariants.{Stay, RoomShift}
use Rattle.ih_tables.specs.declared.ids.RoomNo.{RoomNo}
use Rattle.ih_tables.specs.declared.ids.Shift.{Shift}
use Rattle.ih_tables.specs.declared.ids.Day.{Day}
use Rattle.ih_tables.specs.declared.ids.TheatreNo.{TheatreNo}
use Rattle.ih_tables.specs.declared.ids.NurseNo.{NurseNo}
use Rattle.ih_tables.specs.declared.ids.PatientNo.{PatientNo}
use Rattle.ih_tables.specs.Sizes.{patient_count, room_count, shift_count}
use Rattle.ih_plan.specs.declared.moves.Placement.{Placement}
use Rattle.ih_plan.specs.Expand.{IsMoveOf}
use Rattle.ih_plan.specs.Cells.{IsCellOf}
use Rattle.ih_plan.specs.Footprint.{is_stay, is_room_shift, looks_at}
use Rattle.ih_footprint.specs.CellsState.{same_cell}

pub stay-looked : (p : PatientNo) (e : Cell) → same_cell (Stay p) e ≡ is_stay p.0 e
unfolding same_cell
stay-looked p (Stay q) = refl
stay-looked p _ = refl

pub room_shift-looked : (r : RoomNo) (k : Shift) (e : Cell) → same_cell (RoomShift r k) e ≡ is_room_shift r.0 k.0 e
unfolding same_cell
room_shift-looked r k (RoomShift s l) = refl
room_shift-looked r k _ = refl

pub swap_rooms-pieces : (p q : PatientNo) → (p.0 ≡ q.0 → ⊥) → (e : Cell) → (same_cell (Stay p) e || same_cell (Stay q) e) ≡ looks_at (SwapRooms p q) e
unfolding looks_at
swap_rooms-pieces p q ne e = rw (stay-looked p e, stay-looked q e, ne_eqb p.0 q.0 ne) refl

pub swap_rooms-none : (p q : PatientNo) → p.0 ≡ q.0 → (e : Cell) → looks_at (SwapRooms p q) e ≡ false
unfolding looks_at
swap_rooms-none p q same e = rw (eq-eqb p.0 q.0 same) refl

pub swap_rooms-first : (p q : PatientNo) → (p.0 ≡ q.0 → ⊥) → looks_at (SwapRooms p q) (Stay p) ≡ true
unfolding looks_at
swap_rooms-first p q ne = rw (ne_eqb p.0 q.0 ne) (or_left (p.0 == p.0) (q.0 == p.0) (eq-eqb p.0 p.0 refl))

pub swap_rooms-second : (p q : PatientNo) → (p.0 ≡ q.0 → ⊥) → looks_at (SwapRooms p q) (Stay q) ≡ true
unfolding looks_at
swap_rooms-second p q ne = rw (ne_eqb p.0 q.0 ne) (eq-eqb q.0 q.0 refl)

pub swap_nurses-pieces : (k : Shift) (a b : RoomNo) → (a.0 ≡ b.0 → ⊥) → (e : Cell) → (same_cell (RoomShift a k) e || same_cell (RoomShift b k) e) ≡ looks_at (SwapNurses k a b) e
unfolding looks_at
swap_nurses-pieces k a b ne e = rw (room_shift-looked a k e, room_shift-looked b k e, ne_eqb a.0 b.0 ne) refl

pub swap_nurses-none : (k : Shift) (a b : RoomNo) → a.0 ≡ b.0 → (e : Cell) → looks_at (SwapNurses k a b) e ≡ false
unfolding looks_at
swap_nurses-none k a b same e = rw (eq-eqb a.0 b.0 same) refl

here : (r : RoomNo) (k : Shift) → is_room_shift r.0 k.0 (RoomShift r k) ≡ true
here r k = and_from (r.0 == r.0) (k.0 == k.0) (eq-eqb r.0 r.0 refl) (eq-eqb k.0 k.0 refl)

pub swap_nurses-first : (k : Shift) (a b : RoomNo) → (a.0 ≡ b.0 → ⊥) → looks_at (SwapNurses k a b) (RoomShift a k) ≡ true
unfolding looks_at
swap_nurses-first k a b ne = rw (ne_eqb a.0 b.0 ne) (or_left (is_room_shift a.0 k.0 (RoomShift a k)) (is_room_shift b.0 k.0 (RoomShift a k)) (here a k))

pub swap_nurses-second : (k : Shift) (a b : RoomNo) → (a.0 ≡ b.0 → ⊥) → looks_at (SwapNurses k a b) (RoomShift b k) ≡ true
unfolding looks_at
swap_nurses-second k a b ne = rw (ne_eqb a.0 b.0 ne) (here b k)

-- the same of the moves that look at one stay, and of those that look at nothing
pub withdraw-looks : (m : Move) (p : PatientNo) → m ≡ Withdraw p → (e : Cell) → same_cell (Stay p) e ≡ looks_at m e
unfolding looks_at
withdraw-looks m p h e = rw h (stay-looked p e)

pub set_day-looks : (m : Move) (p : PatientNo) (d : Day) → m ≡ SetDay p d → (e : Cell) → same_cell (Stay p) e ≡ looks_at m e
unfolding looks_at
set_day-looks m p d h e = rw h (stay-looked p e)

pub set_room-looks : (m : Move) (p : PatientNo) (r : RoomNo) → m ≡ SetRoom p r → (e : Cell) → same_cell (Stay p) e ≡ looks_at m e
unfolding looks_at
set_room-looks m p r h e = rw h (stay-looked p e)

pub set_theatre-looks : (m : Move) (p : PatientNo) (t : TheatreNo) → m ≡ SetTheatre p t → (e : Cell) → same_cell (Stay p) e ≡ looks_at m e
unfolding looks_at
set_theatre-looks m p t h e = rw h (stay-looked p e)

pub idle-looks : (m : Move) → m ≡ Idle → (e : Cell) → looks_at m e ≡ false
unfolding looks_at
idle-looks m h e = rw h refl

pub place-looks : (m : Move) (p : PatientNo) (at : Placement) → m ≡ Place p at → (e : Cell) → looks_at m e ≡ false
unfolding looks_at
place-looks m p at h e = rw h refl

pub nurse-looks : (m : Move) (r : RoomNo) (k : Shift) (n : NurseNo) → m ≡ Nurse r k n → (e : Cell) → looks_at m e ≡ false
unfolding looks_at
nurse-looks m r k n h e = rw h refl

pub nurse_run-looks : (m : Move) (n : NurseNo) (r : RoomNo) (d : Day) (len : ℕ) → m ≡ NurseRun n r d len → (e : Cell) → looks_at m e ≡ false
unfolding looks_at
nurse_run-looks m n r d len h e = rw h refl

-- ---- what is looked at is in range

stay-inside : (I : Draft) (p : PatientNo) → p.0 < patient_count I → (e : Cell) → is_stay p.0 e ≡ true → IsCellOf I e
stay-inside I p h (Stay q) t = let same = eqb-true p.0 q.0 t in omega arith
stay-inside I p h _ t = absurd (let no : false ≡ true = t in cc)

room_shift-inside : (I : Draft) (r : RoomNo) (k : Shift) → r.0 < room_count I → k.0 < shift_count I → (e : Cell) → is_room_shift r.0 k.0 e ≡ true → IsCellOf I e
room_shift-inside I r k rh kh (RoomShift s l) t =
    let both = and_parts (r.0 == s.0) (k.0 == l.0) t in
    let room = eqb-true r.0 s.0 both.0 in
    let shift = eqb-true k.0 l.0 both.1 in
    (omega arith, omega arith)
room_shift-inside I r k rh kh _ t = absurd (let no : false ≡ true = t in cc)

nothing : {A : Type 0} → false ≡ true → A
nothing e = absurd (let no : false ≡ true = e in cc)

-- a move in range looks at cells in range
pub looks-inside : (I : Draft) (m : Move) → IsMoveOf I m → (c : Cell) → looks_at m c ≡ true → IsCellOf I c
unfolding looks_at
looks-inside I Idle fits c h = nothing h
looks-inside I (Place p at) fits c h = nothing h
looks-inside I (Withdraw p) fits c h = stay-inside I p fits c h
looks-inside I (SetDay p d) fits c h = stay-inside I p fits.0 c h
looks-inside I (SetRoom p r) fits c h = stay-inside I p fits.0 c h
looks-inside I (SetTheatre p t) fits c h = stay-inside I p fits.0 c h
looks-inside I (SwapRooms p q) fits c h = elim (or_cases (is_stay p.0 c) (is_stay q.0 c) (and_parts (not (p.0 == q.0)) (is_stay p.0 c || is_stay q.0 c) h).1) [
  | inl one ↦ stay-inside I p fits.0 c one
  | inr two ↦ stay-inside I q fits.1 c two
]
looks-inside I (Nurse r k n) fits c h = nothing h
looks-inside I (NurseRun n r d len) fits c h = nothing h
looks-inside I (SwapNurses k a b) fits c h = elim (or_cases (is_room_shift a.0 k.0 c) (is_room_shift b.0 k.0 c)
    (and_parts (not (a.0 == b.0)) (is_room_shift a.0 k.0 c || is_room_shift b.0 k.0 c) h).1) [
      | inl one ↦ room_shift-inside I a k fits.1 fits.0 c one
      | inr two ↦ room_shift-inside I b k fits.2 fits.0 c two
    ]
