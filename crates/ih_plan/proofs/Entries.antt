-- What a write leaves of the single entries of a timetable, and of where each person is.
use Rattle.std.proofs.Common.{◌≡◌, ℕ, zero, suc, ◌<◌, refl, arith, ap, ◌∙◌, List, [], ◌∷◌, length, Option, Some, None, mul_comm}
use Rattle.std.specs.Prelude.{slice_get, slice_set, option_and_then, option_map}
use Rattle.std.proofs.lemmas.Bool.{lt-ltb}
use Rattle.std.proofs.lemmas.Nat.{same_from_place, mul-add-lt}
use Rattle.ih_tables.specs.declared.drafts.Draft.{Draft}
use Rattle.ih_tables.specs.declared.ids.PatientNo.{PatientNo}
use Rattle.ih_tables.specs.declared.ids.RoomNo.{RoomNo}
use Rattle.ih_tables.specs.declared.ids.Shift.{Shift}
use Rattle.ih_tables.specs.declared.ids.NurseNo.{NurseNo}
use Rattle.ih_tables.specs.Sizes.{patient_count, room_count, shift_count}
use Rattle.ih_plan.specs.declared.moves.Placement.{Placement}
use Rattle.ih_plan.specs.declared.moves.Write.TheVariants.{SetStay, SetCare}
use Rattle.ih_plan.specs.Timetable.{Timetable, IsPlanOf, stay_of, care_of, care_place}
use Rattle.ih_plan.specs.Writes.{put}
use Rattle.ih_plan.specs.Presence.{admission_of, placed_at, shifts_of}

-- the number of a nurse, where there is one
abbrev pub number_of_nurse : Option NurseNo → Option ℕ
number_of_nurse n = option_map (λ (m : NurseNo). m.0) n

pub slice_get-set_other : {X : Type 0} (xs : List X) (i j : ℕ) (v : X) → (j ≡ i → ⊥) → slice_get (slice_set xs i v) j ≡ slice_get xs j
slice_get-set_other [] i j v ne = refl
slice_get-set_other (x ∷ xs) zero zero v ne = absurd (ne refl)
slice_get-set_other (x ∷ xs) zero (suc j) v ne = refl
slice_get-set_other (x ∷ xs) (suc i) zero v ne = refl
slice_get-set_other (x ∷ xs) (suc i) (suc j) v ne = slice_get-set_other xs i j v (λ e. ne (ap suc e))

pub slice_get-set_same : {X : Type 0} (xs : List X) (i : ℕ) (v : X) → i < length xs → slice_get (slice_set xs i v) i ≡ Some v
slice_get-set_same [] i v h = absurd (omega arith)
slice_get-set_same (x ∷ xs) zero v h = refl
slice_get-set_same (x ∷ xs) (suc i) v h = slice_get-set_same xs i v (omega arith)

-- ---- a stay

pub stay_of-other : (P : Timetable) (p : PatientNo) (s : Option Placement) (x : ℕ) → (x ≡ p.0 → ⊥) → stay_of (put (SetStay p s) P) x ≡ stay_of P x
stay_of-other P p s x ne = ap (option_and_then (λ (o : Option Placement). o)) (slice_get-set_other P.stays p.0 x s ne)

pub stay_of-same : (P : Timetable) (p : PatientNo) (s : Option Placement) → p.0 < length P.stays → stay_of (put (SetStay p s) P) p.0 ≡ s
stay_of-same P p s h = ap (option_and_then (λ (o : Option Placement). o)) (slice_get-set_same P.stays p.0 s h)

-- a patient's admission is that of the stay
pub admission-patient : (I : Draft) (P : Timetable) (x : ℕ) → x < patient_count I → admission_of I P x ≡ option_map placed_at (stay_of P x)
unfolding admission_of
admission-patient I P x h = rw (lt-ltb x (patient_count I) h) refl

-- equal stays, equal admissions
pub admission-same : (I : Draft) (P Q : Timetable) (x : ℕ) → stay_of P x ≡ stay_of Q x → admission_of I P x ≡ admission_of I Q x
unfolding admission_of
admission-same I P Q x e = rw e refl

pub admission-other : (I : Draft) (P : Timetable) (p : PatientNo) (s : Option Placement) (x : ℕ) → (x ≡ p.0 → ⊥) → admission_of I (put (SetStay p s) P) x ≡ admission_of I P x
admission-other I P p s x ne = admission-same I (put (SetStay p s) P) P x (stay_of-other P p s x ne)

pub admission-set : (I : Draft) (P : Timetable) (p : PatientNo) (s : Option Placement) → IsPlanOf I P → p.0 < patient_count I
    → admission_of I (put (SetStay p s) P) p.0 ≡ option_map placed_at s
admission-set I P p s plan h =
    let sizes : length P.stays ≡ patient_count I = plan.stays in
    let inside : p.0 < length P.stays = omega arith in
    admission-patient I (put (SetStay p s) P) p.0 h ∙ ap (option_map placed_at) (stay_of-same P p s inside)

-- a patient who isn't admitted has no counted shifts
pub no-shifts : (I : Draft) (P : Timetable) (x : ℕ) → x < patient_count I → stay_of P x ≡ None → shifts_of I P x ≡ []
unfolding shifts_of
no-shifts I P x h e = rw (admission-patient I P x h, e) refl

-- ---- a choice

-- two places that are one have one room and one shift
place-same : (I : Draft) (P : Timetable) (r k s l : ℕ) → IsPlanOf I P → k < shift_count I → l < shift_count I
    → care_place P s l ≡ care_place P r k → (s ≡ r) × (l ≡ k)
place-same I P r k s l plan kh lh e =
    let width : P.shifts ≡ shift_count I = plan.shifts in
    same_from_place s l r k P.shifts (rw width lh) (rw width kh)
    (rw (mul_comm s P.shifts, mul_comm r P.shifts) e)

pub care_of-same : (I : Draft) (P : Timetable) (r : RoomNo) (k : Shift) (n : Option NurseNo) → IsPlanOf I P → r.0 < room_count I → k.0 < shift_count I
    → care_of (put (SetCare r k n) P) r.0 k.0 ≡ option_map (λ (m : NurseNo). m.0) n
care_of-same I P r k n plan rh kh =
    let width : P.shifts ≡ shift_count I = plan.shifts in
    let place = mul-add-lt r.0 (shift_count I) k.0 (room_count I) rh kh in
    let inside : care_place P r.0 k.0 < length P.cares = rw (plan.cares, width, mul_comm (shift_count I) r.0) place in
    ap (λ o. option_map (λ (m : NurseNo). m.0) (option_and_then (λ (c : Option NurseNo). c) o)) (slice_get-set_same P.cares (care_place P r.0 k.0) n inside)

pub care_of-other : (I : Draft) (P : Timetable) (r : RoomNo) (k : Shift) (n : Option NurseNo) (s l : ℕ) → IsPlanOf I P → k.0 < shift_count I → l < shift_count I
    → (s ≡ r.0 → l ≡ k.0 → ⊥) → care_of (put (SetCare r k n) P) s l ≡ care_of P s l
care_of-other I P r k n s l plan kh lh ne =
    ap (λ o. option_map (λ (m : NurseNo). m.0) (option_and_then (λ (c : Option NurseNo). c) o))
    (slice_get-set_other P.cares (care_place P r.0 k.0) (care_place P s l) n
    (λ e. let same = place-same I P r.0 k.0 s l plan kh lh e in ne same.0 same.1))
