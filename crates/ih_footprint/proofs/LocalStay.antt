-- A write to a stay at two timetables that agree on its footprint.
use Rattle.std.proofs.Common.{◌≡◌, ℕ, ◌+◌, ◌<◌, refl, arith, sym, ap, ◌∙◌, Bool, true, false, inl, inr, length, Option, Some, None}
use Rattle.std.specs.Prelude.{if◌then◌else◌, ◌&&◌, ◌==◌, option_map, slice_index}
use Rattle.std.proofs.lemmas.Bool.{cases_eq, eq-eqb, or_left, or_right, and_from}
use Rattle.ih_tables.specs.declared.drafts.Draft.{Draft}
use Rattle.ih_tables.specs.declared.ids.PatientNo.{PatientNo}
use Rattle.ih_tables.specs.declared.cells.Cell.{Cell}
use Rattle.ih_tables.specs.declared.cells.Cell.TheVariants.{Stay, RoomDay, TheatreDay, SurgeonDay, RoomShift, NurseShift, Care}
use Rattle.ih_tables.specs.Sizes.{patient_count, person_count, room_count, shift_count}
use Rattle.ih_plan.specs.declared.moves.Placement.{Placement}
use Rattle.ih_plan.specs.declared.moves.Write.TheVariants.{SetStay}
use Rattle.ih_plan.specs.Timetable.{Timetable, IsPlanOf, IsPlacement, stay_of, care_of}
use Rattle.ih_plan.specs.Writes.{put}
use Rattle.ih_plan.specs.Sums.{sum_below, which_below}
use Rattle.ih_plan.specs.Persons.{person_of}
use Rattle.ih_plan.specs.Presence.{Admission, placed_at, is_present, present, day_of, entry_of, entry_in, shifts_of, room_of, covers}
use Rattle.ih_plan.specs.Costs.{nurse_for, operated, operated_by, operated_in, theatre_of, load_of, is_number}
use Rattle.ih_plan.specs.Cells.{IsCellOf, content_of, stay_content, persons_content, surgeries_content, theatres_content, nursing_content, load_content, care_content}
use Rattle.ih_plan.specs.Footprint.{write_touches, in_stay, in_placement, is_own}
use Rattle.ih_plan.proofs.SumLemmas.{sum_below-same, sum_below-but}
use Rattle.ih_plan.proofs.SumBounds.{sum_below-add}
use Rattle.ih_footprint.specs.Laws.{AreSameOn}
use Rattle.ih_plan.specs.Sums.{tagged}
use Rattle.ih_plan.proofs.ListedBelow.{has, which_below-same, which_below-has, which_below-agree, has-which_below, tagged-same, tagged-agree, tagged-agree_keys}
use Rattle.ih_plan.proofs.Entries.{stay_of-other, stay_of-same, admission-patient, admission-other, admission-set}
use Rattle.ih_plan.proofs.Loads.{person_load, room_load, room_load-sum, nurse_load}
use Rattle.ih_footprint.proofs.FootLemmas.{neither}
use Rattle.ih_footprint.proofs.FrameStay.{at_room, of_surgeon, in_stay-shift, present-after, present-other}
use Rattle.ih_footprint.proofs.FrameCare.{counted-present}

abbrev pub stay_room : Option Placement → Option ℕ
stay_room s = option_map (λ (a : Admission). a.room) (option_map placed_at s)

-- what patient p adds by a stay to room r in shift k
abbrev pub stay_load : Draft → ℕ → Option Placement → ℕ → ℕ → ℕ
stay_load I p s k r =
    if at_room I p s r (day_of k) then slice_index (person_of I p).workload (entry_in (option_map placed_at s) k) else 0

abbrev pub stay_share : Draft → Timetable → ℕ → ℕ → ℕ → Option Placement → ℕ → ℕ
stay_share I P n k p s r = if is_number (care_of P r k) n then stay_load I p s k r else 0

stay_share-same : (I : Draft) (P Q : Timetable) (n k p : ℕ) (s : Option Placement) (r : ℕ)
    → (at_room I p s r (day_of k) ≡ true → care_of Q r k ≡ care_of P r k) → stay_share I Q n k p s r ≡ stay_share I P n k p s r
stay_share-same I P Q n k p s r same = by_case (at_room I p s r (day_of k)) refl
  where
    none : (b : Bool) (x : ℕ) → x ≡ 0 → (if b then x else 0) ≡ 0
    none true x e = e
    none false x e = refl

    by_case : (b : Bool) → at_room I p s r (day_of k) ≡ b → stay_share I Q n k p s r ≡ stay_share I P n k p s r
    by_case true e = rw (same e) refl
    by_case false e = rw e (none (is_number (care_of Q r k) n) 0 refl ∙ sym (none (is_number (care_of P r k) n) 0 refl))

nurse-step : (b : Bool) (x y u v : ℕ) → x + u ≡ y + v → (if b then x else 0) + (if b then u else 0) ≡ (if b then y else 0) + (if b then v else 0)
nurse-step true x y u v e = e
nurse-step false x y u v e = refl

-- one timetable
module _ (I : Draft) (P : Timetable) (p : PatientNo) (s : Option Placement) (plan : IsPlanOf I P) (known : p.0 < patient_count I) where
  load-before : (k r : ℕ) → person_load I P k r p.0 ≡ stay_load I p.0 (stay_of P p.0) k r
  unfolding entry_of
  load-before k r = rw (admission-patient I P p.0 known) refl

  load-after : (k r : ℕ) → person_load I (put (SetStay p s) P) k r p.0 ≡ stay_load I p.0 s k r
  unfolding entry_of
  load-after k r = rw (admission-set I P p s plan known) refl

  room-change : (k r : ℕ) → room_load I (put (SetStay p s) P) k r + stay_load I p.0 (stay_of P p.0) k r ≡ room_load I P k r + stay_load I p.0 s k r
  unfolding entry_of
  room-change k r =
      let person : p.0 < person_count I = omega arith in
      let change = sum_below-but (person_count I) p.0 (person_load I (put (SetStay p s) P) k r) (person_load I P k r) person
      (λ x xh ne. rw (admission-other I P p s x ne) refl) in
      let one = room_load-sum I (put (SetStay p s) P) k r in
      let two = room_load-sum I P k r in
      let three = load-before k r in
      let four = load-after k r in
      omega (arith, change, one, two, three, four)

  load-change : (n k : ℕ) → load_of I (put (SetStay p s) P) n k + sum_below (room_count I) (stay_share I P n k p.0 (stay_of P p.0))
      ≡ load_of I P n k + sum_below (room_count I) (stay_share I P n k p.0 s)
  unfolding load_of
  load-change n k =
      sym (sum_below-add (room_count I) (nurse_load I (put (SetStay p s) P) n k) (stay_share I P n k p.0 (stay_of P p.0)))
      ∙ sum_below-same (room_count I) (λ r. nurse_load I (put (SetStay p s) P) n k r + stay_share I P n k p.0 (stay_of P p.0) r)
      (λ r. nurse_load I P n k r + stay_share I P n k p.0 s r)
      (λ r rh. nurse-step (is_number (care_of P r k) n) _ _ _ _ (room-change k r))
      ∙ sum_below-add (room_count I) (nurse_load I P n k) (stay_share I P n k p.0 s)

  own-in : write_touches I P (SetStay p s) (Stay p) ≡ true
  own-in = or_left _ _ (or_left (p.0 == p.0) _ (eq-eqb p.0 p.0 refl))

-- two timetables
module _ (I : Draft) (P Q : Timetable) (p : PatientNo) (s : Option Placement) (planP : IsPlanOf I P) (planQ : IsPlanOf I Q) (known : p.0 < patient_count I)
    (placed : (at : Placement) → s ≡ Some at → IsPlacement I at) (same : AreSameOn I (write_touches I P (SetStay p s)) P Q) where
  same-stay : stay_of Q p.0 ≡ stay_of P p.0
  unfolding content_of
  same-stay =
      let e : stay_content (stay_of Q p.0) ≡ stay_content (stay_of P p.0) = same (Stay p) known (own-in I P p s planP known) in
      cc

  -- the choices for the old stay and for the new one
  same-old : (r k : ℕ) → r < room_count I → k < shift_count I → at_room I p.0 (stay_of P p.0) r (day_of k) ≡ true → care_of Q r k ≡ care_of P r k
  unfolding content_of
  same-old r k rh kh h =
      let cell : Cell = RoomShift (record { 0 = r }) (record { 0 = k }) in
      let e : nursing_content (care_of Q r k) (tagged (λ x. entry_of I Q x k) (present I Q r (day_of k)))
      ≡ nursing_content (care_of P r k) (tagged (λ x. entry_of I P x k) (present I P r (day_of k))) =
      same cell (rh, kh) (or_left _ _ (or_right (is_own p.0 cell) _ (in_stay-shift I P p.0 (stay_of P p.0) (record { 0 = r }) (record { 0 = k }) ∙ h))) in
      cc

  same-new : (r k : ℕ) → r < room_count I → k < shift_count I → at_room I p.0 s r (day_of k) ≡ true → care_of Q r k ≡ care_of P r k
  unfolding content_of
  same-new r k rh kh h =
      let cell : Cell = RoomShift (record { 0 = r }) (record { 0 = k }) in
      let e : nursing_content (care_of Q r k) (tagged (λ x. entry_of I Q x k) (present I Q r (day_of k)))
      ≡ nursing_content (care_of P r k) (tagged (λ x. entry_of I P x k) (present I P r (day_of k))) =
      same cell (rh, kh) (or_right _ _ (in_stay-shift I P p.0 s (record { 0 = r }) (record { 0 = k }) ∙ h)) in
      cc

  insideP : p.0 < length P.stays
  insideP = let sizes = planP.stays in omega arith

  insideQ : p.0 < length Q.stays
  insideQ = let sizes = planQ.stays in omega arith

  placed-old : (at : Placement) → stay_of P p.0 ≡ Some at → IsPlacement I at
  placed-old at e = planP.placed p.0 at e

  -- the same cells at both
  part-same : (o : Option Placement) → ((at : Placement) → o ≡ Some at → IsPlacement I at)
      → ((r k : ℕ) → r < room_count I → k < shift_count I → at_room I p.0 o r (day_of k) ≡ true → care_of Q r k ≡ care_of P r k)
      → (c : Cell) → IsCellOf I c → in_stay I Q p.0 o c ≡ in_stay I P p.0 o c
  unfolding in_placement
  part-same None fits choice c range = refl
  part-same (Some at) fits choice (Stay q) range = refl
  part-same (Some at) fits choice (RoomDay r d) range = refl
  part-same (Some at) fits choice (TheatreDay t d) range = refl
  part-same (Some at) fits choice (SurgeonDay t d) range = refl
  part-same (Some at) fits choice (RoomShift r k) range = refl
  part-same (Some at) fits choice (NurseShift n k) range = by_case (covers at.day.0 (person_of I p.0).length_of_stay (day_of k.0)) refl
    where
      by_case : (b : Bool) → covers at.day.0 (person_of I p.0).length_of_stay (day_of k.0) ≡ b
          → (is_number (care_of Q at.room.0 k.0) n.0 && b) ≡ (is_number (care_of P at.room.0 k.0) n.0 && b)
      by_case true e =
          let there = and_from (at.room.0 == at.room.0) (covers at.day.0 (person_of I p.0).length_of_stay (day_of k.0)) (eq-eqb at.room.0 at.room.0 refl) e in
          rw (choice at.room.0 k.0 (fits at refl).room range.1 there) refl
      by_case false e = neither (is_number (care_of Q at.room.0 k.0) n.0) (is_number (care_of P at.room.0 k.0) n.0)
  part-same (Some at) fits choice (Care x) range = refl

  pub touches_stay-same : (c : Cell) → IsCellOf I c → write_touches I Q (SetStay p s) c ≡ write_touches I P (SetStay p s) c
  touches_stay-same c range =
      rw (same-stay, part-same (stay_of P p.0) placed-old same-old c range, part-same s placed same-new c range) refl

  -- the same content before, the same content after
  after-present : (r d : ℕ) → present I Q r d ≡ present I P r d → present I (put (SetStay p s) Q) r d ≡ present I (put (SetStay p s) P) r d
  unfolding present
  after-present r d e =
      which_below-same (person_count I) (is_present I (put (SetStay p s) Q) r d) (is_present I (put (SetStay p s) P) r d) (λ x xh.
      elim (cases_eq x p.0) [
        | inl own ↦ rw own (present-after I Q p s planQ known r d ∙ sym (present-after I P p s planP known r d))
        | inr other ↦ present-other I Q p s planQ known r d x other
            ∙ which_below-agree (person_count I) (is_present I Q r d) (is_present I P r d) e x xh
            ∙ sym (present-other I P p s planP known r d x other)
      ])

  after-entries : (r k : ℕ) → tagged (λ x. entry_of I Q x k) (present I Q r (day_of k)) ≡ tagged (λ x. entry_of I P x k) (present I P r (day_of k))
      → tagged (λ x. entry_of I (put (SetStay p s) Q) x k) (present I (put (SetStay p s) Q) r (day_of k))
      ≡ tagged (λ x. entry_of I (put (SetStay p s) P) x k) (present I (put (SetStay p s) P) r (day_of k))
  unfolding present entry_of
  after-entries r k e =
      let keys = tagged-agree_keys (λ x. entry_of I Q x k) (λ x. entry_of I P x k) (present I Q r (day_of k)) (present I P r (day_of k)) e in
      rw (after-present r (day_of k) keys)
      (tagged-same (λ x. entry_of I (put (SetStay p s) Q) x k) (λ x. entry_of I (put (SetStay p s) P) x k) (present I (put (SetStay p s) P) r (day_of k)) (λ x h.
      elim (cases_eq x p.0) [
        | inl own ↦ rw (own, admission-set I Q p s planQ known, admission-set I P p s planP known) refl
        | inr other ↦
            let in_list = which_below-has (person_count I) x (is_present I (put (SetStay p s) P) r (day_of k)) h in
            let before : has x (present I P r (day_of k))
            ≡ true = has-which_below (person_count I) x (is_present I P r (day_of k)) in_list.0
            ∙ sym (present-other I P p s planP known r (day_of k) x other) ∙ in_list.1 in
            let before_too : has x (present I Q r (day_of k)) ≡ true = rw keys before in
            rw (admission-other I Q p s x other, admission-other I P p s x other)
            (tagged-agree (λ x. entry_of I Q x k) (λ x. entry_of I P x k) (present I Q r (day_of k)) (present I P r (day_of k)) e x before_too)
      ]))

  after-surgeries : (t d : ℕ) → operated I Q t d ≡ operated I P t d → operated I (put (SetStay p s) Q) t d ≡ operated I (put (SetStay p s) P) t d
  unfolding operated
  after-surgeries t d e =
      which_below-same (patient_count I) (λ x. operated_in t d (stay_of (put (SetStay p s) Q) x)) (λ x. operated_in t d (stay_of (put (SetStay p s) P) x)) (λ x xh.
      elim (cases_eq x p.0) [
        | inl own ↦ rw (own, stay_of-same P p s insideP, stay_of-same Q p s insideQ) refl
        | inr other ↦ rw (stay_of-other P p s x other, stay_of-other Q p s x other)
            (which_below-agree (patient_count I) (λ x. operated_in t d (stay_of Q x)) (λ x. operated_in t d (stay_of P x)) e x xh)
      ])

  after-surgeon : (t d : ℕ) → tagged (theatre_of Q) (operated_by I Q t d) ≡ tagged (theatre_of P) (operated_by I P t d)
      → tagged (theatre_of (put (SetStay p s) Q)) (operated_by I (put (SetStay p s) Q) t d) ≡ tagged (theatre_of (put (SetStay p s) P)) (operated_by I (put (SetStay p s) P) t d)
  unfolding operated_by
  after-surgeon t d e =
      let testP = λ (x : ℕ). of_surgeon I t d x (stay_of P x) in
      let testQ = λ (x : ℕ). of_surgeon I t d x (stay_of Q x) in
      let newP = λ (x : ℕ). of_surgeon I t d x (stay_of (put (SetStay p s) P) x) in
      let newQ = λ (x : ℕ). of_surgeon I t d x (stay_of (put (SetStay p s) Q) x) in
      let keys = tagged-agree_keys (theatre_of Q) (theatre_of P) (which_below (patient_count I) testQ) (which_below (patient_count I) testP) e in
      let news : which_below (patient_count I) newQ ≡ which_below (patient_count I) newP = which_below-same (patient_count I) newQ newP (λ x xh.
      elim (cases_eq x p.0) [
        | inl own ↦ rw (own, stay_of-same P p s insideP, stay_of-same Q p s insideQ) refl
        | inr other ↦ rw (stay_of-other P p s x other, stay_of-other Q p s x other) (which_below-agree (patient_count I) testQ testP keys x xh)
      ]) in
      rw news
      (tagged-same (theatre_of (put (SetStay p s) Q)) (theatre_of (put (SetStay p s) P)) (which_below (patient_count I) newP) (λ x h.
      elim (cases_eq x p.0) [
        | inl own ↦ rw (own, stay_of-same P p s insideP, stay_of-same Q p s insideQ) refl
        | inr other ↦
            let in_list = which_below-has (patient_count I) x newP h in
            let test : testP x ≡ true = rw (stay_of-other P p s x other) at in_list.1 in
            let before : has x (which_below (patient_count I) testP) ≡ true = has-which_below (patient_count I) x testP in_list.0 ∙ test in
            let before_too : has x (which_below (patient_count I) testQ) ≡ true = rw keys before in
            rw (stay_of-other P p s x other, stay_of-other Q p s x other)
            (tagged-agree (theatre_of Q) (theatre_of P) (which_below (patient_count I) testQ) (which_below (patient_count I) testP) e x before_too)
      ]))

  after-load : (n k : ℕ) → k < shift_count I → load_of I Q n k ≡ load_of I P n k → load_of I (put (SetStay p s) Q) n k ≡ load_of I (put (SetStay p s) P) n k
  after-load n k kh e =
      let changeP = load-change I P p s planP known n k in
      let changeQ : load_of I (put (SetStay p s) Q) n k + sum_below (room_count I) (stay_share I Q n k p.0 (stay_of P p.0)) ≡ load_of I Q n k + sum_below (room_count I) (stay_share I Q n k p.0 s)
      = rw same-stay at (load-change I Q p s planQ known n k) in
      let old = sum_below-same (room_count I) (stay_share I Q n k p.0 (stay_of P p.0)) (stay_share I P n k p.0 (stay_of P p.0))
      (λ r rh. stay_share-same I P Q n k p.0 (stay_of P p.0) r (same-old r k rh kh)) in
      let new = sum_below-same (room_count I) (stay_share I Q n k p.0 s) (stay_share I P n k p.0 s)
      (λ r rh. stay_share-same I P Q n k p.0 s r (same-new r k rh kh)) in
      omega (arith, changeP, changeQ, old, new, e)

  -- a choice for the patient after the write
  after-choice : (k : ℕ) → has k (shifts_of I (put (SetStay p s) P) p.0) ≡ true → nurse_for Q (stay_room s) k ≡ nurse_for P (stay_room s) k
  after-choice k h = by_case s refl
    where
      by_case : (o : Option Placement) → s ≡ o → nurse_for Q (stay_room o) k ≡ nurse_for P (stay_room o) k
      by_case None e = refl
      by_case (Some at) e =
          let room : room_of I (put (SetStay p s) P) p.0 ≡ Some at.room.0 = rw (admission-set I P p s planP known, e) refl in
          let there = counted-present I (put (SetStay p s) P) p.0 at.room.0 k room h in
          same-new at.room.0 k (placed at e).room there.1 (sym (present-after I P p s planP known at.room.0 (day_of k)) ∙ there.0)

  after-shifts : shifts_of I (put (SetStay p s) Q) p.0 ≡ shifts_of I (put (SetStay p s) P) p.0
  unfolding shifts_of
  after-shifts = rw (admission-set I Q p s planQ known, admission-set I P p s planP known) refl

  after-own : tagged (nurse_for Q (room_of I (put (SetStay p s) Q) p.0)) (shifts_of I (put (SetStay p s) Q) p.0)
      ≡ tagged (nurse_for P (room_of I (put (SetStay p s) P) p.0)) (shifts_of I (put (SetStay p s) P) p.0)
  after-own = rw (after-shifts, admission-set I Q p s planQ known, admission-set I P p s planP known)
      (tagged-same (nurse_for Q (stay_room s)) (nurse_for P (stay_room s)) (shifts_of I (put (SetStay p s) P) p.0) after-choice)

  after-other : (x : ℕ) → (x ≡ p.0 → ⊥) → tagged (nurse_for Q (room_of I Q x)) (shifts_of I Q x) ≡ tagged (nurse_for P (room_of I P x)) (shifts_of I P x)
      → tagged (nurse_for Q (room_of I (put (SetStay p s) Q) x)) (shifts_of I (put (SetStay p s) Q) x)
      ≡ tagged (nurse_for P (room_of I (put (SetStay p s) P) x)) (shifts_of I (put (SetStay p s) P) x)
  unfolding shifts_of
  after-other x other e = rw (admission-other I P p s x other, admission-other I Q p s x other) e

  pub after_stay : (c : Cell) → IsCellOf I c → content_of I Q c ≡ content_of I P c → content_of I (put (SetStay p s) Q) c ≡ content_of I (put (SetStay p s) P) c
  unfolding content_of
  after_stay (Stay q) range e = elim (cases_eq q.0 p.0) [
    | inl own ↦
        rw (own, stay_of-same P p s insideP, stay_of-same Q p s insideQ) refl
    | inr other ↦ rw (stay_of-other P p s q.0 other, stay_of-other Q p s q.0 other) e
  ]
  after_stay (RoomDay r d) range e = ap persons_content (after-present r.0 d.0 (let f : persons_content (present I Q r.0 d.0) ≡ persons_content (present I P r.0 d.0) = e in cc))
  after_stay (TheatreDay t d) range e = ap surgeries_content (after-surgeries t.0 d.0 (let f : surgeries_content (operated I Q t.0 d.0) ≡ surgeries_content (operated I P t.0 d.0) = e in cc))
  after_stay (SurgeonDay t d) range e = ap theatres_content
      (after-surgeon t.0 d.0
      (let f : theatres_content (tagged (theatre_of Q) (operated_by I Q t.0 d.0))
      ≡ theatres_content (tagged (theatre_of P) (operated_by I P t.0 d.0)) = e in cc))
  after_stay (RoomShift r k) range e =
      let f : nursing_content (care_of Q r.0 k.0) (tagged (λ x. entry_of I Q x k.0) (present I Q r.0 (day_of k.0)))
      ≡ nursing_content (care_of P r.0 k.0) (tagged (λ x. entry_of I P x k.0) (present I P r.0 (day_of k.0))) = e in
      let nurse : care_of Q r.0 k.0 ≡ care_of P r.0 k.0 = cc in
      let people = after-entries r.0 k.0
      (let f : nursing_content (care_of Q r.0 k.0) (tagged (λ x. entry_of I Q x k.0) (present I Q r.0 (day_of k.0)))
      ≡ nursing_content (care_of P r.0 k.0) (tagged (λ x. entry_of I P x k.0) (present I P r.0 (day_of k.0))) = e in cc) in
      cc
  after_stay (NurseShift n k) range e = ap load_content (after-load n.0 k.0 range.1 (let f : load_content (load_of I Q n.0 k.0) ≡ load_content (load_of I P n.0 k.0) = e in cc))
  after_stay (Care x) range e = elim (cases_eq x.0 p.0) [
    | inl own ↦ rw own (ap care_content after-own)
    | inr other ↦ ap care_content (after-other x.0 other
        (let f : care_content (tagged (nurse_for Q (room_of I Q x.0)) (shifts_of I Q x.0)) ≡ care_content (tagged (nurse_for P (room_of I P x.0)) (shifts_of I P x.0)) = e in cc))
  ]
