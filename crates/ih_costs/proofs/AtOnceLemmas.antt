-- No write of a move changes what a later one looks at.
use Rattle.std.proofs.Common.{◌≡◌, ℕ, zero, suc, ◌+◌, ◌<◌, ◌≤◌, refl, arith, sym, ap, subst, ◌∙◌, Bool, true, false, List, [], ◌∷◌, map, Option, Some, None}
use Rattle.std.specs.Prelude.{◌==◌, ◌&&◌, ◌||◌, filter, if◌then◌else◌}
use Rattle.std.specs.List.{range_with_len}
use Rattle.std.proofs.lemmas.Bool.{eqb-false}
use Rattle.ih_tables.specs.declared.drafts.Draft.{Draft}
use Rattle.ih_tables.specs.declared.ids.PatientNo.{PatientNo}
use Rattle.ih_tables.specs.declared.ids.RoomNo.{RoomNo}
use Rattle.ih_tables.specs.declared.ids.Shift.{Shift}
use Rattle.ih_tables.specs.declared.ids.NurseNo.{NurseNo}
use Rattle.ih_tables.specs.declared.cells.Cell.{Cell}
use Rattle.ih_tables.specs.declared.cells.Cell.TheVariants.{Stay, RoomDay, TheatreDay, SurgeonDay, RoomShift, NurseShift, Care}
use Rattle.ih_tables.specs.Sizes.{room_count, shift_count, nurse_count}
use Rattle.ih_plan.specs.declared.moves.Placement.{Placement}
use Rattle.ih_plan.specs.declared.moves.Write.{Write}
use Rattle.ih_plan.specs.declared.moves.Write.TheVariants.{SetStay, SetCare}
use Rattle.ih_plan.specs.declared.moves.Move.TheVariants.{Idle, Place, Withdraw, SetDay, SetRoom, SetTheatre, SwapRooms, Nurse, NurseRun, SwapNurses}
use Rattle.ih_plan.specs.Timetable.{Timetable, IsPlanOf, stay_of, care_of, choice_of}
use Rattle.ih_plan.specs.Writes.{put, IsWriteOf}
use Rattle.ih_plan.specs.Expand.{expand, restay, swap_stays, in_run}
use Rattle.ih_plan.specs.Presence.{admission_of}
use Rattle.ih_plan.specs.Costs.{is_number}
use Rattle.ih_plan.specs.Footprint.{in_placement, in_stay, is_own, in_choice, write_touches, writes_touch}
use Rattle.ih_plan.proofs.Entries.{stay_of-other, care_of-other}
use Rattle.ih_plan.proofs.PlanRanges.{put-plan}
use Rattle.ih_costs.specs.AtOnce.{touch_at_once, MovesTouchAtOnce}

-- ---- what another write leaves of what a write looks at

-- the cells of a placement rest on nurses alone
placement-kept : (I : Draft) (P : Timetable) (p : PatientNo) (s : Option Placement) (q : ℕ) (at : Placement) (c : Cell)
    → in_placement I (put (SetStay p s) P) q at c ≡ in_placement I P q at c
unfolding in_placement
placement-kept I P p s q at (Stay x) = refl
placement-kept I P p s q at (RoomDay r d) = refl
placement-kept I P p s q at (TheatreDay t d) = refl
placement-kept I P p s q at (SurgeonDay t d) = refl
placement-kept I P p s q at (RoomShift r k) = refl
placement-kept I P p s q at (NurseShift n k) = refl
placement-kept I P p s q at (Care x) = refl

stay-kept : (I : Draft) (P : Timetable) (p : PatientNo) (s : Option Placement) (q : ℕ) (t : Option Placement) (c : Cell)
    → in_stay I (put (SetStay p s) P) q t c ≡ in_stay I P q t c
stay-kept I P p s q None c = refl
stay-kept I P p s q (Some at) c = placement-kept I P p s q at c

stays-apart : (I : Draft) (P : Timetable) (p q : PatientNo) (s t : Option Placement) (c : Cell) → (q.0 ≡ p.0 → ⊥)
    → write_touches I (put (SetStay p s) P) (SetStay q t) c ≡ write_touches I P (SetStay q t) c
stays-apart I P p q s t c other =
    ap (λ (o : Option Placement). is_own q.0 c || in_stay I (put (SetStay p s) P) q.0 o c || in_stay I (put (SetStay p s) P) q.0 t c)
    (stay_of-other P p s q.0 other)
    ∙ ap (λ (b : Bool). is_own q.0 c || b || in_stay I (put (SetStay p s) P) q.0 t c) (stay-kept I P p s q.0 (stay_of P q.0) c)
    ∙ ap (λ (b : Bool). is_own q.0 c || in_stay I P q.0 (stay_of P q.0) c || b) (stay-kept I P p s q.0 t c)

-- the cells of a choice rest on the choice there before, and on who is where
choice-kept : (I : Draft) (P : Timetable) (r : RoomNo) (k : Shift) (n : Option NurseNo) (s l : ℕ) (m : Option ℕ) (c : Cell)
    → care_of (put (SetCare r k n) P) s l ≡ care_of P s l → in_choice I (put (SetCare r k n) P) s l m c ≡ in_choice I P s l m c
unfolding in_choice admission_of
choice-kept I P r k n s l m (Stay x) same = refl
choice-kept I P r k n s l m (RoomDay t d) same = refl
choice-kept I P r k n s l m (TheatreDay t d) same = refl
choice-kept I P r k n s l m (SurgeonDay t d) same = refl
choice-kept I P r k n s l m (RoomShift t j) same = refl
choice-kept I P r k n s l m (NurseShift i j) same = ap (λ (o : Option ℕ). (l == j.0) && (is_number o i.0 || is_number m i.0)) same
choice-kept I P r k n s l m (Care x) same = refl

cares-apart : (I : Draft) (P : Timetable) (r s : RoomNo) (k l : Shift) (n m : Option NurseNo) (c : Cell) → IsPlanOf I P
    → k.0 < shift_count I → l.0 < shift_count I → (s.0 ≡ r.0 → l.0 ≡ k.0 → ⊥)
    → write_touches I (put (SetCare r k n) P) (SetCare s l m) c ≡ write_touches I P (SetCare s l m) c
cares-apart I P r s k l n m c plan kh lh other =
    choice-kept I P r k n s.0 l.0 _ c (care_of-other I P r k n s.0 l.0 plan kh lh other)

-- ---- two writes

two-at-once : (I : Draft) (P : Timetable) (v w : Write) (c : Cell) → write_touches I (put v P) w c ≡ write_touches I P w c
    → touch_at_once I P (v ∷ w ∷ []) c ≡ writes_touch I P (v ∷ w ∷ []) c
unfolding writes_touch
two-at-once I P v w c same = ap (λ (b : Bool). write_touches I P v c || (b || false)) (sym same)

-- ---- a run of shifts

module _ (I : Draft) (r : RoomNo) (n : NurseNo) (room : r.0 < room_count I) (nurse : n.0 < nurse_count I) (p : ℕ → Bool) where
  abbrev choose : ℕ → Write
  choose k = SetCare r (record { 0 = k }) (Some n)

  abbrev chosen : ℕ → ℕ → List Write
  chosen a len = map choose (filter p (range_with_len a len))

  -- what later choices touch stays where an earlier one is made
  kept-rest : (P : Timetable) (k a len : ℕ) → IsPlanOf I P → k < a → a + len ≤ shift_count I → (c : Cell)
      → touch_at_once I (put (choose k) P) (chosen a len) c ≡ touch_at_once I P (chosen a len) c
  kept-rest P k a zero plan before within c = refl
  kept-rest P k a (suc len) plan before within c = by_case (p a) (kept-rest P k (a + 1) len plan (omega arith) (omega arith) c)
    where
      by_case : (t : Bool) → touch_at_once I (put (choose k) P) (chosen (a + 1) len) c ≡ touch_at_once I P (chosen (a + 1) len) c
          → touch_at_once I (put (choose k) P) (map choose (if t then a ∷ filter p (range_with_len (a + 1) len) else filter p (range_with_len (a + 1) len))) c
          ≡ touch_at_once I P (map choose (if t then a ∷ filter p (range_with_len (a + 1) len) else filter p (range_with_len (a + 1) len))) c
      by_case false rest = rest
      by_case true rest =
          ap (λ (b : Bool). b || touch_at_once I (put (choose k) P) (chosen (a + 1) len) c)
          (cares-apart I P r r (record { 0 = k }) (record { 0 = a }) (Some n) (Some n) c plan (omega arith) (omega arith) (λ same now. omega arith))
          ∙ ap (λ (b : Bool). write_touches I P (choose a) c || b) rest

  choose-fits : (k : ℕ) → k < shift_count I → IsWriteOf I (choose k)
  choose-fits k h = (
    room,
    h,
    λ m e. let same : n.0 ≡ m.0 = (let f : Some n ≡ Some m = e in cc) in subst (λ j. j < nurse_count I) same nurse,
  )

  run-at-once : (a len : ℕ) (P : Timetable) → IsPlanOf I P → a + len ≤ shift_count I → (c : Cell)
      → touch_at_once I P (chosen a len) c ≡ writes_touch I P (chosen a len) c
  unfolding writes_touch
  run-at-once a zero P plan within c = refl
  run-at-once a (suc len) P plan within c = by_case (p a) (λ Q planQ. run-at-once (a + 1) len Q planQ (omega arith) c)
    where
      by_case : (t : Bool) → ((Q : Timetable) → IsPlanOf I Q → touch_at_once I Q (chosen (a + 1) len) c ≡ writes_touch I Q (chosen (a + 1) len) c)
          → touch_at_once I P (map choose (if t then a ∷ filter p (range_with_len (a + 1) len) else filter p (range_with_len (a + 1) len))) c
          ≡ writes_touch I P (map choose (if t then a ∷ filter p (range_with_len (a + 1) len) else filter p (range_with_len (a + 1) len))) c
      by_case false rest = rest P plan
      by_case true rest =
          ap (λ (b : Bool). write_touches I P (choose a) c || b)
          (sym (kept-rest P a (a + 1) len plan (omega arith) (omega arith) c)
          ∙ rest (put (choose a) P) (put-plan I P (choose a) plan (choose-fits a (omega arith))))

-- ---- moves

one-stay : (I : Draft) (P : Timetable) (p : PatientNo) (f : Placement → Option Placement) (o : Option Placement) (c : Cell)
    → touch_at_once I P (restay p f o) c ≡ writes_touch I P (restay p f o) c
unfolding writes_touch
one-stay I P p f None c = refl
one-stay I P p f (Some at) c = refl

two-stays : (I : Draft) (P : Timetable) (p q : PatientNo) (a b : Option Placement) (c : Cell) → (q.0 ≡ p.0 → ⊥)
    → touch_at_once I P (swap_stays p q a b) c ≡ writes_touch I P (swap_stays p q a b) c
unfolding writes_touch
two-stays I P p q None b c other = refl
two-stays I P p q (Some a) None c other = refl
two-stays I P p q (Some a) (Some b) c other =
    two-at-once I P (SetStay p (Some (record a { room = b.room }))) (SetStay q (Some (record b { room = a.room }))) c
    (stays-apart I P p q (Some (record a { room = b.room })) (Some (record b { room = a.room })) c other)

-- the law of one look
pub at-once : (I : Draft) → MovesTouchAtOnce I
unfolding expand writes_touch
at-once I P Idle c plan fits = refl
at-once I P (Place p at) c plan fits = refl
at-once I P (Withdraw p) c plan fits = one-stay I P p (λ at. None) (stay_of P p.0) c
at-once I P (SetDay p d) c plan fits = one-stay I P p (λ at. Some (record at { day = d })) (stay_of P p.0) c
at-once I P (SetRoom p r) c plan fits = one-stay I P p (λ at. Some (record at { room = r })) (stay_of P p.0) c
at-once I P (SetTheatre p t) c plan fits = one-stay I P p (λ at. Some (record at { theatre = t })) (stay_of P p.0) c
at-once I P (SwapRooms p q) c plan fits = by_case (p.0 == q.0) refl
  where
    by_case : (t : Bool) → (p.0 == q.0) ≡ t
        → touch_at_once I P (if t then [] else swap_stays p q (stay_of P p.0) (stay_of P q.0)) c
        ≡ writes_touch I P (if t then [] else swap_stays p q (stay_of P p.0) (stay_of P q.0)) c
    by_case true e = refl
    by_case false e = two-stays I P p q (stay_of P p.0) (stay_of P q.0) c (λ same. eqb-false p.0 q.0 e (sym same))
at-once I P (Nurse r k n) c plan fits = refl
at-once I P (NurseRun n r d len) c plan fits =
    run-at-once I r n fits.1 fits.0 (in_run I n d.0 len)
    0 (shift_count I) P plan (omega arith) c
at-once I P (SwapNurses k a b) c plan fits = by_case (a.0 == b.0) refl
  where
    by_case : (t : Bool) → (a.0 == b.0) ≡ t
        → touch_at_once I P (if t then [] else SetCare a k (choice_of P b.0 k.0) ∷ SetCare b k (choice_of P a.0 k.0) ∷ []) c
        ≡ writes_touch I P (if t then [] else SetCare a k (choice_of P b.0 k.0) ∷ SetCare b k (choice_of P a.0 k.0) ∷ []) c
    by_case true e = refl
    by_case false e =
        two-at-once I P (SetCare a k (choice_of P b.0 k.0)) (SetCare b k (choice_of P a.0 k.0)) c
        (cares-apart I P a b k k (choice_of P b.0 k.0) (choice_of P a.0 k.0) c plan fits.0 fits.0 (λ same now. eqb-false a.0 b.0 e (sym same)))
