-- The pieces of a footprint, joined.
use Rattle.std.proofs.Common.{◌≡◌, ℕ, ◌+◌, ◌*◌, ◌<◌, ◌≤◌, refl, arith, sym, ap, ◌∙◌, Bool, true, false, List, [], ◌∷◌, ◌++◌, inl, inr, Option, Some, None, length, take}
use Rattle.std.specs.Prelude.{◌||◌, ◌==◌, ◌&&◌, nat_eq, option_map, slice_get, slice_index}
use Rattle.std.proofs.lemmas.Bool.{cases_eq, eq-eqb, ne_eqb, and_right}
use Rattle.std.proofs.lemmas.List.Folds.{list_any-append, list_any_at}
use Rattle.std.proofs.lemmas.List.{take_more}
use Rattle.std.proofs.lemmas.Cmp.{nat_eq_equiv}
use Rattle.ih_tables.specs.declared.drafts.Draft.{Draft}
use Rattle.ih_tables.specs.declared.drafts.Patient.{Patient}
use Rattle.ih_tables.specs.declared.cells.Cell.{Cell}
use Rattle.ih_tables.specs.declared.cells.Cell.TheVariants.{Stay, RoomDay, TheatreDay, SurgeonDay, RoomShift, NurseShift, Care}
use Rattle.ih_tables.specs.declared.ids.RoomNo.{RoomNo}
use Rattle.ih_tables.specs.declared.ids.Shift.{Shift}
use Rattle.ih_tables.specs.declared.ids.NurseNo.{NurseNo}
use Rattle.ih_tables.specs.declared.ids.PatientNo.{PatientNo}
use Rattle.ih_tables.specs.declared.ids.PersonNo.{PersonNo}
use Rattle.ih_tables.specs.Sizes.{NumberingState, sizes_of, room_count, shift_count}
use Rattle.ih_plan.specs.declared.moves.Placement.{Placement}
use Rattle.ih_plan.specs.declared.moves.Write.TheVariants.{SetStay}
use Rattle.ih_plan.specs.Timetable.{Timetable, IsPlanOf, care_of, choice_of, stay_of}
use Rattle.ih_plan.specs.Persons.{person_of}
use Rattle.ih_plan.specs.Presence.{is_present, day_of, in_span, end_of}
use Rattle.ih_plan.specs.Costs.{is_number}
use Rattle.ih_plan.specs.Cells.{IsCellIn, IsCellOf}
use Rattle.ih_plan.specs.Footprint.{in_placement, in_stay, in_choice, is_own, write_touches}
use Rattle.ih_footprint.specs.CellsState.{same_cell}
use Rattle.ih_footprint.specs.Pieces.{in_shift, in_days, in_room_days, in_room_shifts, in_nurse_shifts, in_nurse, in_cares}
use Rattle.ih_plan.specs.Present.{ArePresent}
use Rattle.ih_plan.specs.Sums.{is_listed}
use Rattle.std.proofs.Math.Bool.{or-false}
use Rattle.ih_plan.proofs.Spans.{span-none, span-more, span-covers, span-shifts}
use Rattle.ih_plan.proofs.Whereabouts.{person-known}

-- ---- a room in a shift

pub shift-none : (P : Timetable) (r : RoomNo) (k : Shift) → choice_of P r.0 k.0 ≡ None → (e : Cell) → same_cell (RoomShift r k) e ≡ in_shift P r.0 k.0 e
unfolding same_cell in_shift
shift-none P r k h (RoomShift s l) = refl
shift-none P r k h (NurseShift m l) = rw h refl
shift-none P r k h _ = refl

pub shift-some : (P : Timetable) (r : RoomNo) (k : Shift) (n : NurseNo) → choice_of P r.0 k.0 ≡ Some n → (e : Cell)
    → (same_cell (RoomShift r k) e || same_cell (NurseShift n k) e) ≡ in_shift P r.0 k.0 e
unfolding same_cell in_shift
shift-some P r k n h (RoomShift s l) = or-false ((r.0 == s.0) && (k.0 == l.0))
shift-some P r k n h (NurseShift m l) = rw h refl
shift-some P r k n h _ = refl

-- the shift of a nurse
pub nurse-some : (n : NurseNo) (k : Shift) (o : Option NurseNo) → o ≡ Some n → (e : Cell) → same_cell (NurseShift n k) e ≡ in_nurse (option_map (λ (m : NurseNo). m.0) o) k.0 e
unfolding same_cell in_nurse
nurse-some n k o h (NurseShift m l) = rw h refl
nurse-some n k o h _ = refl

pub nurse-none : (k : Shift) (o : Option NurseNo) → o ≡ None → (e : Cell) → in_nurse (option_map (λ (m : NurseNo). m.0) o) k.0 e ≡ false
unfolding in_nurse
nurse-none k o h (NurseShift m l) = rw h refl
nurse-none k o h _ = refl

-- the nurse who is chosen has a cell
pub chosen-in : (I : Draft) (P : Timetable) (r : ℕ) (k : Shift) (n : NurseNo) (z : NumberingState) → IsPlanOf I P → z ≡ sizes_of I → k.0 < shift_count I → choice_of P r k.0 ≡ Some n
    → IsCellIn z (NurseShift n k)
chosen-in I P r k n z plan sizes inside e =
    rw sizes (plan.nursed r k.0 n.0 (ap (option_map (λ (m : NurseNo). m.0)) e), inside)

-- ---- shifts in a row

pub neither : (b c : Bool) → (b && false) ≡ (c && false)
neither b c = and_right b false refl ∙ sym (and_right c false refl)

at-shift : (P : Timetable) (r k l n : ℕ) → (is_number (care_of P r l) n && (l == k)) ≡ (is_number (care_of P r k) n && (l == k))
at-shift P r k l n = elim (cases_eq l k) [
  | inl same ↦ rw same refl
  | inr other ↦ rw (ne_eqb l k other) (neither (is_number (care_of P r l) n) (is_number (care_of P r k) n))
]

share : (g s t u : Bool) → (s || t) ≡ u → ((g && s) || (g && t)) ≡ (g && u)
share true s t u e = e
share false s t u e = refl

-- one more shift
pub shifts-more : (P : Timetable) (r a k : ℕ) → a ≤ k → (e : Cell) → (in_nurse_shifts P r a k e || in_nurse (care_of P r k) k e) ≡ in_nurse_shifts P r a (k + 1) e
unfolding in_nurse_shifts in_nurse
shifts-more P r a k h (NurseShift n l) =
    rw (at-shift P r l.0 k n.0) (share (is_number (care_of P r l.0) n.0) (in_span a k l.0) (k == l.0) (in_span a (k + 1) l.0) (sym (span-more a k l.0 h)))
shifts-more P r a k h _ = refl

-- no shift yet
pub shifts-none : (P : Timetable) (r a : ℕ) (e : Cell) → in_nurse_shifts P r a a e ≡ false
unfolding in_nurse_shifts
shifts-none P r a (NurseShift n k) = and_right (is_number (care_of P r k.0) n.0) (in_span a a k.0) (span-none a k.0)
shifts-none P r a _ = refl

-- days are the room's days and shifts and its nurses' shifts
pub days-pieces : (P : Timetable) (r a b : ℕ) (e : Cell)
    → ((in_room_days r a b e || in_room_shifts r (3 * a) (3 * b) e) || in_nurse_shifts P r (3 * a) (3 * b) e) ≡ in_days P r a b e
unfolding in_room_days in_room_shifts in_nurse_shifts in_days
days-pieces P r a b (RoomDay s d) = or-false _ ∙ or-false ((r == s.0) && in_span a b d.0)
days-pieces P r a b (RoomShift s k) = or-false _ ∙ ap (λ x. (r == s.0) && x) (span-shifts a b k.0)
days-pieces P r a b (NurseShift n k) = ap (λ x. is_number (care_of P r k.0) n.0 && x) (span-shifts a b k.0)
days-pieces P r a b _ = refl

-- ---- a placement

pub placement-pieces : (I : Draft) (P : Timetable) (p : ℕ) (at : Placement) (a : Patient) → slice_get I.patients p ≡ Some a
    → (e : Cell) → IsCellOf I e
    → ((in_days P at.room.0 at.day.0 (end_of I p at) e || same_cell (TheatreDay at.theatre at.day) e) || same_cell (SurgeonDay a.surgeon_id at.day) e)
    ≡ in_placement I P p at e
unfolding in_placement in_days same_cell
placement-pieces I P p at a known (Stay q) range = refl
placement-pieces I P p at a known (RoomDay r d) range = rw (span-covers at.day.0 (person_of I p).length_of_stay I.days d.0 range.1) (or-false _ ∙ or-false _)
placement-pieces I P p at a known (TheatreDay t d) range = or-false ((at.theatre.0 == t.0) && (at.day.0 == d.0))
placement-pieces I P p at a known (SurgeonDay s d) range = rw known refl
placement-pieces I P p at a known (RoomShift r k) range =
    let day : day_of k.0 < I.days = (let within = range.1 in omega arith) in
    rw (span-covers at.day.0 (person_of I p).length_of_stay I.days (day_of k.0) day) (or-false _ ∙ or-false _)
placement-pieces I P p at a known (NurseShift n k) range =
    let day : day_of k.0 < I.days = (let within = range.1 in omega arith) in
    rw (span-covers at.day.0 (person_of I p).length_of_stay I.days (day_of k.0) day) (or-false _ ∙ or-false _)
placement-pieces I P p at a known (Care x) range = refl

-- ---- a patient's own cells

own-pieces : (p : PatientNo) (x : PersonNo) → x.0 ≡ p.0 → (e : Cell) → (same_cell (Stay p) e || same_cell (Care x) e) ≡ is_own p.0 e
unfolding same_cell
own-pieces p x h (Stay q) = or-false (p.0 == q.0)
own-pieces p x h (Care y) = ap (λ i. i == y.0) h
own-pieces p x h _ = refl

-- the footprint of a patient's write is the own cells, those of the placement before and those of the one after
pub set_stay-pieces : (I : Draft) (P : Timetable) (p : PatientNo) (x : PersonNo) (old new : Option Placement) → x.0 ≡ p.0 → old ≡ stay_of P p.0 → (e : Cell)
    → (((same_cell (Stay p) e || same_cell (Care x) e) || in_stay I P p.0 old e) || in_stay I P p.0 new e) ≡ write_touches I P (SetStay p new) e
set_stay-pieces I P p x old new same is e =
    ap (λ b. (b || in_stay I P p.0 old e) || in_stay I P p.0 new e) (own-pieces p x same e) ∙ ap (λ s. (is_own p.0 e || in_stay I P p.0 s e) || in_stay I P p.0 new e) is

-- ---- the persons present

pub cares-none : (e : Cell) → in_cares [] e ≡ false
unfolding in_cares
cares-none (Care x) = refl
cares-none _ = refl

-- one more person
cares-more : (xs : List ℕ) (x : PersonNo) (e : Cell) → (in_cares xs e || same_cell (Care x) e) ≡ in_cares (xs ++ x.0 ∷ []) e
unfolding in_cares same_cell
cares-more xs x (Care y) = sym (list_any-append (nat_eq y.0) xs (x.0 ∷ []) ∙ ap (λ b. is_listed y.0 xs || b) (or-false (y.0 == x.0) ∙ nat_eq_equiv.symm y.0 x.0))
cares-more xs x _ = refl

-- the next person of a list
pub cares-next : (xs : List ℕ) (i : ℕ) (x : PersonNo) → i < length xs → x.0 ≡ slice_index xs i → (e : Cell)
    → (in_cares (take i xs) e || same_cell (Care x) e) ≡ in_cares (take (i + 1) xs) e
cares-next xs i x inside is e =
    cares-more (take i xs) x e ∙ ap (λ ys. in_cares ys e) (ap (λ y. take i xs ++ y ∷ []) is ∙ sym (take_more xs i 0 inside))

module _ (I : Draft) (P : Timetable) {rooms days : ℕ} {persons : ℕ → ℕ → List ℕ} (present : ArePresent I P rooms days persons) (r d : ℕ) (r_in : r < room_count I) (d_in : d < I.days) where
  -- who is told is who is present
  pub told-present : (x : ℕ) → is_listed x (persons r d) ≡ is_present I P r d x
  told-present x = present.each r d x (rw present.rooms_are r_in) (rw present.days_are d_in)

  -- so each who is told has a cell
  pub member-in : (i x : ℕ) (z : NumberingState) → z ≡ sizes_of I → i < length (persons r d) → x ≡ slice_index (persons r d) i → x < z.patients + z.occupants
  member-in i x z sizes inside is =
      let listed = list_any_at (nat_eq x) (persons r d) i 0 inside (eq-eqb x (slice_index (persons r d) i) is) in
      rw sizes (person-known I P r d x (sym (told-present x) ∙ listed))

-- ---- a choice

both-nurses : (b c t : Bool) → (((b && t) || (c && t)) || false) ≡ (t && (b || c))
both-nurses true c true = refl
both-nurses true true false = refl
both-nurses true false false = refl
both-nurses false true true = refl
both-nurses false true false = refl
both-nurses false false true = refl
both-nurses false false false = refl

pub choice-pieces : (I : Draft) (P : Timetable) (r k : ℕ) (n : Option ℕ) (xs : List ℕ) → ((x : ℕ) → is_listed x xs ≡ is_present I P r (day_of k) x) → (e : Cell)
    → ((in_shift P r k e || in_nurse n k e) || in_cares xs e) ≡ in_choice I P r k n e
unfolding in_choice in_shift in_nurse in_cares
choice-pieces I P r k n xs h (RoomShift s l) = or-false _ ∙ or-false ((r == s.0) && (k == l.0))
choice-pieces I P r k n xs h (NurseShift m l) = both-nurses (is_number (care_of P r k) m.0) (is_number n m.0) (k == l.0)
choice-pieces I P r k n xs h (Care x) = h x.0
choice-pieces I P r k n xs h _ = refl
