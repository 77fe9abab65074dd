-- Locality: what writes and moves do where two timetables agree on their footprint.
use Rattle.std.proofs.Common.{◌≡◌, ◌<◌, refl, ap, ◌∙◌, Bool, true, false, List, [], ◌∷◌, Option, Some, None}
use Rattle.std.specs.Prelude.{option_map}
use Rattle.std.proofs.lemmas.Bool.{or_left, or_right, or_parts}
use Rattle.ih_tables.specs.declared.drafts.Draft.{Draft}
use Rattle.ih_tables.specs.declared.ids.NurseNo.{NurseNo}
use Rattle.ih_tables.specs.declared.cells.Cell.{Cell}
use Rattle.ih_tables.specs.Sizes.{patient_count}
use Rattle.ih_plan.specs.declared.moves.Write.{Write}
use Rattle.ih_plan.specs.declared.moves.Write.TheVariants.{SetStay, SetCare}
use Rattle.ih_plan.specs.Timetable.{Timetable, IsPlanOf, stay_of, care_of}
use Rattle.ih_plan.specs.Writes.{AreWritesOf, put, put_all, IsWriteOf}
use Rattle.ih_plan.specs.Cells.{IsCellOf, content_of}
use Rattle.ih_plan.specs.Footprint.{write_touches, writes_touch}
use Rattle.ih_tables.specs.Sizes.{room_count, shift_count}
use Rattle.ih_tables.specs.declared.ids.PatientNo.{PatientNo}
use Rattle.ih_tables.specs.declared.ids.RoomNo.{RoomNo}
use Rattle.ih_tables.specs.declared.ids.Shift.{Shift}
use Rattle.ih_tables.specs.declared.cells.Cell.TheVariants.{Stay, RoomShift}
use Rattle.std.specs.Prelude.{if◌then◌else◌, ◌==◌}
use Rattle.std.proofs.lemmas.Bool.{eq-eqb}
use Rattle.ih_plan.specs.Timetable.{choice_of}
use Rattle.ih_plan.specs.declared.moves.Move.{Move}
use Rattle.ih_plan.specs.declared.moves.Move.TheVariants.{Idle, Place, Withdraw, SetDay, SetRoom, SetTheatre, SwapRooms, Nurse, NurseRun, SwapNurses}
use Rattle.ih_plan.specs.Expand.{expand, IsMoveOf, swap_stays, after}
use Rattle.ih_plan.specs.Presence.{present, entry_of, day_of}
use Rattle.ih_plan.specs.Cells.{stay_content, nursing_content}
use Rattle.ih_plan.specs.Footprint.{touches, looks_at}
use Rattle.ih_plan.specs.Sums.{tagged}
use Rattle.ih_plan.proofs.PlanRanges.{put-plan, expand-writes}
use Rattle.ih_footprint.specs.Laws.{AreSameOn}
use Rattle.ih_footprint.proofs.FrameStay.{frame_stay}
use Rattle.ih_footprint.proofs.FrameCare.{frame_care}
use Rattle.ih_footprint.proofs.LocalStay.{touches_stay-same, after_stay}
use Rattle.ih_footprint.proofs.LocalCare.{touches_care-same, after_care}

-- Making a write changes no content outside its footprint.
pub frame : (I : Draft) (P : Timetable) (w : Write) (c : Cell) → IsPlanOf I P → IsWriteOf I w → IsCellOf I c
    → write_touches I P w c ≡ false → content_of I (put w P) c ≡ content_of I P c
frame I P (SetStay p s) c plan fits range h = frame_stay I P p s plan fits.0 c h
frame I P (SetCare r k n) c plan fits range h = frame_care I P r k n plan fits.0 fits.1 c range h

-- The same footprint where the contents on it are the same.
pub touches-same : (I : Draft) (P Q : Timetable) (w : Write) → IsPlanOf I P → IsPlanOf I Q → IsWriteOf I w → AreSameOn I (write_touches I P w) P Q
    → (c : Cell) → IsCellOf I c → write_touches I Q w c ≡ write_touches I P w c
touches-same I P Q (SetStay p s) planP planQ fits same c range = touches_stay-same I P Q p s planP planQ fits.0 fits.1 same c range
touches-same I P Q (SetCare r k n) planP planQ fits same c range = touches_care-same I P Q r k n planP planQ fits.0 fits.1 same c range

-- Each cell with the same content before has the same content after.
pub after-same : (I : Draft) (P Q : Timetable) (w : Write) → IsPlanOf I P → IsPlanOf I Q → IsWriteOf I w → AreSameOn I (write_touches I P w) P Q
    → (c : Cell) → IsCellOf I c → content_of I Q c ≡ content_of I P c → content_of I (put w Q) c ≡ content_of I (put w P) c
after-same I P Q (SetStay p s) planP planQ fits same c range e = after_stay I P Q p s planP planQ fits.0 fits.1 same c range e
after-same I P Q (SetCare r k n) planP planQ fits same c range e = after_care I P Q r k n planP planQ fits.0 fits.1 same c range e

-- ---- writes in a row

pub frame_all : (I : Draft) (P : Timetable) (ws : List Write) (c : Cell) → IsPlanOf I P → AreWritesOf I ws → IsCellOf I c
    → writes_touch I P ws c ≡ false → content_of I (put_all ws P) c ≡ content_of I P c
unfolding writes_touch
frame_all I P [] c plan fits range h = refl
frame_all I P (w ∷ ws) c plan fits range h =
    let apart = or_parts (write_touches I P w c) (writes_touch I (put w P) ws c) h in
    frame_all I (put w P) ws c (put-plan I P w plan fits.0) fits.1 range apart.1 ∙ frame I P w c plan fits.0 range apart.0

-- Where the contents are the same on cells among which the footprint is, so is the footprint, and so are the contents
-- after.
pub local_all : (I : Draft) (P Q : Timetable) (ws : List Write) (passes : Cell → Bool) → IsPlanOf I P → IsPlanOf I Q → AreWritesOf I ws
    → AreSameOn I passes P Q → ((c : Cell) → IsCellOf I c → writes_touch I P ws c ≡ true → passes c ≡ true)
    → ((c : Cell) → IsCellOf I c → writes_touch I Q ws c ≡ writes_touch I P ws c) × AreSameOn I passes (put_all ws P) (put_all ws Q)
unfolding writes_touch
local_all I P Q [] passes planP planQ fits same within = (λ c range. refl, same)
local_all I P Q (w ∷ ws) passes planP planQ fits same within =
    let on_first : AreSameOn I (write_touches I P w) P Q = λ c range h. same c range (within c range (or_left (write_touches I P w c) (writes_touch I (put w P) ws c) h)) in
    let first = λ (c : Cell) (range : IsCellOf I c). touches-same I P Q w planP planQ fits.0 on_first c range in
    let next : AreSameOn I passes (put w P) (put w Q) = λ c range h. after-same I P Q w planP planQ fits.0 on_first c range (same c range h) in
    let rest = local_all I (put w P) (put w Q) ws passes (put-plan I P w planP fits.0) (put-plan I Q w planQ fits.0) fits.1 next
    (λ c range h. within c range (or_right (write_touches I P w c) (writes_touch I (put w P) ws c) h)) in
    (λ c range. rw (first c range, rest.0 c range) refl, rest.1)

-- ---- moves

-- a choice is known by the nurse's number
choice-same : (a b : Option NurseNo) → option_map (λ (n : NurseNo). n.0) a ≡ option_map (λ (n : NurseNo). n.0) b → a ≡ b
choice-same None None e = refl
choice-same None (Some n) e = absurd (let no : None ≡ Some n.0 = e in cc)
choice-same (Some n) None e = absurd (let no : Some n.0 ≡ None = e in cc)
choice-same (Some m) (Some n) e =
    let same : m.0 ≡ n.0 = (let f : Some m.0 ≡ Some n.0 = e in cc) in
    ap (λ k. let o : NurseNo = record { 0 = k } in Some o) same

module _ (I : Draft) (P Q : Timetable) (passes : Cell → Bool) (same : AreSameOn I passes P Q) where
  seen-stay : (p : PatientNo) → p.0 < patient_count I → passes (Stay p) ≡ true → stay_of Q p.0 ≡ stay_of P p.0
  unfolding content_of
  seen-stay p known h = let e : stay_content (stay_of Q p.0) ≡ stay_content (stay_of P p.0) = same (Stay p) known h in cc

  seen-choice : (r : RoomNo) (k : Shift) → r.0 < room_count I → k.0 < shift_count I → passes (RoomShift r k) ≡ true → choice_of Q r.0 k.0 ≡ choice_of P r.0 k.0
  unfolding content_of
  seen-choice r k rh kh h =
      let e : nursing_content (care_of Q r.0 k.0) (tagged (λ x. entry_of I Q x k.0) (present I Q r.0 (day_of k.0)))
      ≡ nursing_content (care_of P r.0 k.0) (tagged (λ x. entry_of I P x k.0) (present I P r.0 (day_of k.0))) =
      same (RoomShift r k) (rh, kh) h in
      choice-same (choice_of Q r.0 k.0) (choice_of P r.0 k.0) (cc)

looked : (I : Draft) (P : Timetable) (m : Move) (c : Cell) → looks_at m c ≡ true → touches I P m c ≡ true
unfolding touches
looked I P m c h = or_right (writes_touch I P (expand I P m) c) (looks_at m c) h

expand-same : (I : Draft) (P Q : Timetable) (m : Move) → IsMoveOf I m → AreSameOn I (touches I P m) P Q → expand I Q m ≡ expand I P m
unfolding expand looks_at
expand-same I P Q Idle fits same = refl
expand-same I P Q (Place p at) fits same = refl
expand-same I P Q (Withdraw p) fits same =
    rw (seen-stay I P Q (touches I P (Withdraw p)) same p fits (looked I P (Withdraw p) (Stay p) (eq-eqb p.0 p.0 refl))) refl
expand-same I P Q (SetDay p d) fits same =
    rw (seen-stay I P Q (touches I P (SetDay p d)) same p fits.0 (looked I P (SetDay p d) (Stay p) (eq-eqb p.0 p.0 refl))) refl
expand-same I P Q (SetRoom p r) fits same =
    rw (seen-stay I P Q (touches I P (SetRoom p r)) same p fits.0 (looked I P (SetRoom p r) (Stay p) (eq-eqb p.0 p.0 refl))) refl
expand-same I P Q (SetTheatre p t) fits same =
    rw (seen-stay I P Q (touches I P (SetTheatre p t)) same p fits.0 (looked I P (SetTheatre p t) (Stay p) (eq-eqb p.0 p.0 refl))) refl
expand-same I P Q (SwapRooms p q) fits same = by_case (p.0 == q.0) refl
  where
    by_case : (b : Bool) → (p.0 == q.0) ≡ b → (if b then [] else swap_stays p q (stay_of Q p.0) (stay_of Q q.0)) ≡ (if b then [] else swap_stays p q (stay_of P p.0) (stay_of P q.0))
    by_case true e = refl
    by_case false e =
        let see_p : looks_at (SwapRooms p q) (Stay p) ≡ true = rw (e, eq-eqb p.0 p.0 refl) refl in
        let see_q : looks_at (SwapRooms p q) (Stay q) ≡ true = rw (e, eq-eqb q.0 q.0 refl) refl in
        rw (
          seen-stay I P Q (touches I P (SwapRooms p q)) same p fits.0 (looked I P (SwapRooms p q) (Stay p) see_p),
          seen-stay I P Q (touches I P (SwapRooms p q)) same q fits.1 (looked I P (SwapRooms p q) (Stay q) see_q),
        ) refl
expand-same I P Q (Nurse r k n) fits same = refl
expand-same I P Q (NurseRun n r d len) fits same = refl
expand-same I P Q (SwapNurses k a b) fits same = by_case (a.0 == b.0) refl
  where
    by_case : (t : Bool) → (a.0 == b.0) ≡ t → (if t then [] else SetCare a k (choice_of Q b.0 k.0) ∷ SetCare b k (choice_of Q a.0 k.0) ∷ [])
        ≡ (if t then [] else SetCare a k (choice_of P b.0 k.0) ∷ SetCare b k (choice_of P a.0 k.0) ∷ [])
    by_case true e = refl
    by_case false e =
        let see_a : looks_at (SwapNurses k a b) (RoomShift a k) ≡ true = rw (e, eq-eqb a.0 a.0 refl, eq-eqb k.0 k.0 refl) refl in
        let see_b : looks_at (SwapNurses k a b) (RoomShift b k) ≡ true = rw (e, eq-eqb b.0 b.0 refl, eq-eqb k.0 k.0 refl) refl in
        rw (
          seen-choice I P Q (touches I P (SwapNurses k a b)) same a k fits.1 fits.0 (looked I P (SwapNurses k a b) (RoomShift a k) see_a),
          seen-choice I P Q (touches I P (SwapNurses k a b)) same b k fits.2 fits.0 (looked I P (SwapNurses k a b) (RoomShift b k) see_b),
        ) refl

-- What a move does at Q is what it does at P, but for the bill.
pub record DoesSame (I : Draft) (P Q : Timetable) (m : Move) : Type 0 where
  pub expanded : expand I Q m ≡ expand I P m
  pub touched : (c : Cell) → IsCellOf I c → touches I Q m c ≡ touches I P m c
  pub afterwards : AreSameOn I (touches I P m) (after I P m) (after I Q m)

pub local_move : (I : Draft) (P Q : Timetable) (m : Move) → IsPlanOf I P → IsPlanOf I Q → IsMoveOf I m → AreSameOn I (touches I P m) P Q → DoesSame I P Q m
unfolding touches
local_move I P Q m planP planQ fits same =
    let writes = expand-writes I P m planP fits in
    let writes_same = expand-same I P Q m fits same in
    let both = local_all I P Q (expand I P m) (touches I P m) planP planQ writes same
    (λ c range h. or_left (writes_touch I P (expand I P m) c) (looks_at m c) h) in
    record {
      expanded = writes_same;
      touched = λ c range. rw (writes_same, both.0 c range) refl;
      afterwards = rw writes_same both.1;
    }

-- A move changes no content outside its footprint.
pub frame_move : (I : Draft) (P : Timetable) (m : Move) (c : Cell) → IsPlanOf I P → IsMoveOf I m → IsCellOf I c → touches I P m c ≡ false
    → content_of I (after I P m) c ≡ content_of I P c
unfolding touches
frame_move I P m c plan fits range h =
    frame_all I P (expand I P m) c plan (expand-writes I P m plan fits) range (or_parts (writes_touch I P (expand I P m) c) (looks_at m c) h).0
