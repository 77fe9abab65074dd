-- Cells and their numbers stand for each other, and equal tests give equal footprints.
use Rattle.std.proofs.Common.{◌≡◌, ℕ, ◌+◌, zero, suc, ◌-◌, ◌*◌, ◌/◌, ◌%◌, ◌<◌, refl, arith, inl, inr, add_assoc}
use Rattle.std.proofs.Math.Nat.{mod-eq-sub-div-mul, div-mul-le_self}
use Rattle.std.proofs.lemmas.Bool.{cases_lt, lt-ltb, le-ltb}
use Rattle.std.proofs.lemmas.Nat.{mul-add-lt, div_below, mod_below}
use Rattle.ih_tables.specs.declared.cells.Cell.{Cell}
use Rattle.ih_tables.specs.declared.cells.Cell.TheVariants.{Stay, RoomDay, TheatreDay, SurgeonDay, RoomShift, NurseShift, Care}
use Rattle.ih_tables.specs.Sizes.{NumberingState}
use Rattle.ih_plan.specs.Cells.{cell_in, count_in, number_in, IsCellIn, room_days_from, theatre_days_from, surgeon_days_from, room_shifts_from, nurse_shifts_from, cares_from}
use Rattle.ih_plan.proofs.CellNumbers.{at-stay, at-room_day, at-theatre_day, at-surgeon_day, at-room_shift, at-nurse_shift, at-care}

row_in : (m r d : ℕ) → m < r * d → (m / d < r) × (m % d < d)
row_in m r zero h = absurd (let e : r * zero ≡ 0 = omega arith in omega arith)
row_in m r (suc d) h = (div_below m (suc d) r (omega arith) h, mod_below m (suc d) (omega arith))

-- each number below the count has a cell in range
pub cell_in-in : (z : NumberingState) (n : ℕ) → n < count_in z → IsCellIn z (cell_in z n)
unfolding cell_in
cell_in-in z n h = elim (cases_lt n (room_days_from z)) [
  | inl stay ↦ rw (lt-ltb n (room_days_from z) stay) stay
  | inr a ↦ rw (le-ltb n (room_days_from z) a) (elim (cases_lt n (theatre_days_from z)) [
    | inl room_day ↦ rw (lt-ltb n (theatre_days_from z) room_day) (row_in (n - room_days_from z) z.rooms z.days (omega arith))
    | inr b ↦ rw (le-ltb n (theatre_days_from z) b) (elim (cases_lt n (surgeon_days_from z)) [
      | inl theatre_day ↦ rw (lt-ltb n (surgeon_days_from z) theatre_day) (row_in (n - theatre_days_from z) z.theatres z.days (omega arith))
      | inr c ↦ rw (le-ltb n (surgeon_days_from z) c) (elim (cases_lt n (room_shifts_from z)) [
        | inl surgeon_day ↦ rw (lt-ltb n (room_shifts_from z) surgeon_day) (row_in (n - surgeon_days_from z) z.surgeons z.days (omega arith))
        | inr d ↦ rw (le-ltb n (room_shifts_from z) d) (elim (cases_lt n (nurse_shifts_from z)) [
          | inl room_shift ↦ rw (lt-ltb n (nurse_shifts_from z) room_shift) (row_in (n - room_shifts_from z) z.rooms (3 * z.days) (omega arith))
          | inr e ↦ rw (le-ltb n (nurse_shifts_from z) e) (elim (cases_lt n (cares_from z)) [
            | inl nurse_shift ↦ rw (lt-ltb n (cares_from z) nurse_shift) (row_in (n - nurse_shifts_from z) z.nurses (3 * z.days) (omega arith))
            | inr care ↦ rw (le-ltb n (cares_from z) care) (let x : n - cares_from z < (z.patients + z.occupants) = omega arith in x)
          ])
        ])
      ])
    ])
  ])
]

row_back : (m r d : ℕ) → m < r * d → m / d * d + m % d ≡ m
row_back m r zero h = absurd (let e : r * zero ≡ 0 = omega arith in omega arith)
row_back m r (suc d) h = let e = mod-eq-sub-div-mul m (suc d) in let l = div-mul-le_self m (suc d) in omega arith

-- the number of a number's cell is the number
pub number_in-cell_in : (z : NumberingState) (n : ℕ) → n < count_in z → number_in z (cell_in z n) ≡ n
unfolding cell_in
number_in-cell_in z n h = elim (cases_lt n (room_days_from z)) [
  | inl stay ↦ rw (lt-ltb n (room_days_from z) stay) refl
  | inr a ↦ rw (le-ltb n (room_days_from z) a) (elim (cases_lt n (theatre_days_from z)) [
    | inl room_day ↦ rw (lt-ltb n (theatre_days_from z) room_day) (let e = row_back (n - room_days_from z) z.rooms z.days (omega arith) in omega arith)
    | inr b ↦ rw (le-ltb n (theatre_days_from z) b) (elim (cases_lt n (surgeon_days_from z)) [
      | inl theatre_day ↦ rw (lt-ltb n (surgeon_days_from z) theatre_day) (let e = row_back (n - theatre_days_from z) z.theatres z.days (omega arith) in omega arith)
      | inr c ↦ rw (le-ltb n (surgeon_days_from z) c) (elim (cases_lt n (room_shifts_from z)) [
        | inl surgeon_day ↦ rw (lt-ltb n (room_shifts_from z) surgeon_day) (let e = row_back (n - surgeon_days_from z) z.surgeons z.days (omega arith) in omega arith)
        | inr d ↦ rw (le-ltb n (room_shifts_from z) d) (elim (cases_lt n (nurse_shifts_from z)) [
          | inl room_shift ↦ rw (lt-ltb n (nurse_shifts_from z) room_shift) (let e = row_back (n - room_shifts_from z) z.rooms (3 * z.days) (omega arith) in omega arith)
          | inr e ↦ rw (le-ltb n (nurse_shifts_from z) e) (elim (cases_lt n (cares_from z)) [
            | inl nurse_shift ↦ rw (lt-ltb n (cares_from z) nurse_shift) (let f = row_back (n - nurse_shifts_from z) z.nurses (3 * z.days) (omega arith) in omega arith)
            | inr care ↦ rw (le-ltb n (cares_from z) care) (omega arith)
          ])
        ])
      ])
    ])
  ])
]

-- the cell with a cell's number is the cell
pub cell_in-number_in : (z : NumberingState) (c : Cell) → IsCellIn z c → cell_in z (number_in z c) ≡ c
cell_in-number_in z (Stay p) h = at-stay z p.0 h
cell_in-number_in z (RoomDay r d) h = rw (add_assoc (room_days_from z) (r.0 * z.days) d.0) (at-room_day z r.0 d.0 h.0 h.1)
cell_in-number_in z (TheatreDay t d) h = rw (add_assoc (theatre_days_from z) (t.0 * z.days) d.0) (at-theatre_day z t.0 d.0 h.0 h.1)
cell_in-number_in z (SurgeonDay s d) h = rw (add_assoc (surgeon_days_from z) (s.0 * z.days) d.0) (at-surgeon_day z s.0 d.0 h.0 h.1)
cell_in-number_in z (RoomShift r k) h = rw (add_assoc (room_shifts_from z) (r.0 * (3 * z.days)) k.0) (at-room_shift z r.0 k.0 h.0 h.1)
cell_in-number_in z (NurseShift n k) h = rw (add_assoc (nurse_shifts_from z) (n.0 * (3 * z.days)) k.0) (at-nurse_shift z n.0 k.0 h.0 h.1)
cell_in-number_in z (Care x) h = at-care z x.0

row_place : (m r d i j : ℕ) → i < r → j < d → m + i * d + j < m + r * d
row_place m r d i j ih jh = omega (arith, mul-add-lt i d j r ih jh)

-- a cell in range has a number below the count
pub number_in-in : (z : NumberingState) (c : Cell) → IsCellIn z c → number_in z c < count_in z
number_in-in z (Stay p) h = omega arith
number_in-in z (RoomDay r d) h = let place = row_place (room_days_from z) z.rooms z.days r.0 d.0 h.0 h.1 in omega arith
number_in-in z (TheatreDay t d) h = let place = row_place (theatre_days_from z) z.theatres z.days t.0 d.0 h.0 h.1 in omega arith
number_in-in z (SurgeonDay s d) h = let place = row_place (surgeon_days_from z) z.surgeons z.days s.0 d.0 h.0 h.1 in omega arith
number_in-in z (RoomShift r k) h = let place = row_place (room_shifts_from z) z.rooms (3 * z.days) r.0 k.0 h.0 h.1 in omega arith
number_in-in z (NurseShift n k) h = let place = row_place (nurse_shifts_from z) z.nurses (3 * z.days) n.0 k.0 h.0 h.1 in omega arith
number_in-in z (Care x) h = omega arith
