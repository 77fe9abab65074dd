-- A write to a choice at two timetables that agree on its footprint.
use Rattle.std.proofs.Common.{◌≡◌, ℕ, ◌<◌, refl, arith, sym, ap, ◌∙◌, Bool, true, false, inl, inr, Option, Some, None}
use Rattle.std.specs.Prelude.{if◌then◌else◌, ◌&&◌, ◌==◌, option_map}
use Rattle.std.proofs.lemmas.Bool.{cases_eq, eq-eqb, eqb-true, eqb-false, and_from}
use Rattle.ih_tables.specs.declared.drafts.Draft.{Draft}
use Rattle.ih_tables.specs.declared.ids.RoomNo.{RoomNo}
use Rattle.ih_tables.specs.declared.ids.Shift.{Shift}
use Rattle.ih_tables.specs.declared.ids.NurseNo.{NurseNo}
use Rattle.ih_tables.specs.declared.cells.Cell.{Cell}
use Rattle.ih_tables.specs.declared.cells.Cell.TheVariants.{Stay, RoomDay, TheatreDay, SurgeonDay, RoomShift, NurseShift, Care}
use Rattle.ih_tables.specs.Sizes.{person_count, room_count, shift_count}
use Rattle.ih_plan.specs.declared.moves.Write.TheVariants.{SetCare}
use Rattle.ih_plan.specs.Timetable.{Timetable, IsPlanOf, care_of}
use Rattle.ih_plan.specs.Writes.{put}
use Rattle.ih_plan.specs.Persons.{person_of}
use Rattle.ih_plan.specs.Presence.{Admission, admission_of, is_in, is_present, present, day_of, entry_of, shifts_of, shifts_in, room_of, covers, workload_of}
use Rattle.ih_plan.specs.Costs.{nurse_for, operated, operated_by, load_of}
use Rattle.ih_plan.specs.Cells.{IsCellOf, content_of, load_content, care_content, nursing_content}
use Rattle.ih_plan.specs.Footprint.{write_touches, in_choice}
use Rattle.ih_footprint.specs.Laws.{AreSameOn}
use Rattle.ih_plan.specs.Sums.{tagged}
use Rattle.ih_plan.proofs.ListedBelow.{has, which_below-agree, has-which_below, tagged-same, tagged-agree, tagged-agree_keys}
use Rattle.ih_plan.proofs.Entries.{care_of-same, care_of-other, number_of_nurse}
use Rattle.ih_plan.proofs.Loads.{room_load, room_load-same, if-same, load-moves, load-kept}
use Rattle.ih_footprint.proofs.FrameCare.{counted-covers}

-- one timetable
module _ (I : Draft) (P : Timetable) (r : RoomNo) (k : Shift) (n : Option NurseNo) (plan : IsPlanOf I P)
    (room : r.0 < room_count I) (shift : k.0 < shift_count I) where
  choice-change : (x l : ℕ) → has l (shifts_of I P x) ≡ true
      → nurse_for (put (SetCare r k n) P) (room_of I P x) l ≡ (if (k.0 == l) && is_present I P r.0 (day_of k.0) x then number_of_nurse n else nurse_for P (room_of I P x) l)
  unfolding shifts_of
  choice-change x l = by_admission (admission_of I P x)
    where
      by_room : (a : Admission) (b c : Bool) → (k.0 == l) ≡ b → (a.room == r.0) ≡ c → covers a.day (person_of I x).length_of_stay (day_of l) ≡ true → l < shift_count I
          → care_of (put (SetCare r k n) P) a.room l ≡ (if b && (c && covers a.day (person_of I x).length_of_stay (day_of k.0)) then number_of_nurse n else care_of P a.room l)
      by_room a true true now here there lh =
          let same : k.0 ≡ l = eqb-true k.0 l now in
          let place : a.room ≡ r.0 = eqb-true a.room r.0 here in
          rw (same, there, place, ← same) (care_of-same I P r k n plan room shift)
      by_room a true false now here there lh = care_of-other I P r k n a.room l plan shift lh (λ same _. eqb-false a.room r.0 here same)
      by_room a false c now here there lh = care_of-other I P r k n a.room l plan shift lh (λ _ same. eqb-false k.0 l now (sym same))

      by_admission : (o : Option Admission) → has l (shifts_in I o (person_of I x).length_of_stay) ≡ true
          → nurse_for (put (SetCare r k n) P) (option_map (λ (a : Admission). a.room) o) l
          ≡ (if (k.0 == l) && is_in o (person_of I x).length_of_stay r.0 (day_of k.0) then number_of_nurse n else nurse_for P (option_map (λ (a : Admission). a.room) o) l)
      by_admission None h = absurd (let no : false ≡ true = h in cc)
      by_admission (Some a) h =
          let counted = counted-covers I a (person_of I x).length_of_stay l h in
          by_room a (k.0 == l) (a.room == r.0) refl refl counted.0 counted.1

-- two timetables
module _ (I : Draft) (P Q : Timetable) (r : RoomNo) (k : Shift) (n : Option NurseNo) (planP : IsPlanOf I P) (planQ : IsPlanOf I Q)
    (room : r.0 < room_count I) (shift : k.0 < shift_count I) (same : AreSameOn I (write_touches I P (SetCare r k n)) P Q) where
  same-room_shift : nursing_content (care_of Q r.0 k.0) (tagged (λ x. entry_of I Q x k.0) (present I Q r.0 (day_of k.0)))
      ≡ nursing_content (care_of P r.0 k.0) (tagged (λ x. entry_of I P x k.0) (present I P r.0 (day_of k.0)))
  unfolding content_of in_choice
  same-room_shift = same (RoomShift r k) (room, shift) (and_from (r.0 == r.0) (k.0 == k.0) (eq-eqb r.0 r.0 refl) (eq-eqb k.0 k.0 refl))

  same-nurse : care_of Q r.0 k.0 ≡ care_of P r.0 k.0
  same-nurse = let e = same-room_shift in cc

  same-entries : tagged (λ x. entry_of I Q x k.0) (present I Q r.0 (day_of k.0)) ≡ tagged (λ x. entry_of I P x k.0) (present I P r.0 (day_of k.0))
  same-entries = let e = same-room_shift in cc

  same-present : (x : ℕ) → x < person_count I → is_present I Q r.0 (day_of k.0) x ≡ is_present I P r.0 (day_of k.0) x
  unfolding present
  same-present x xh =
      which_below-agree (person_count I) (is_present I Q r.0 (day_of k.0)) (is_present I P r.0 (day_of k.0))
      (tagged-agree_keys (λ x. entry_of I Q x k.0) (λ x. entry_of I P x k.0) (present I Q r.0 (day_of k.0)) (present I P r.0 (day_of k.0)) same-entries) x xh

  same-load : room_load I Q k.0 r.0 ≡ room_load I P k.0 r.0
  unfolding present
  same-load = room_load-same I Q P k.0 r.0 (λ x xh.
      rw (same-present x xh)
      (if-same (is_present I P r.0 (day_of k.0) x) (workload_of I Q k.0 x) (workload_of I P k.0 x) 0 (λ there.
      let in_list : has x (present I Q r.0 (day_of k.0)) ≡ true = has-which_below (person_count I) x (is_present I Q r.0 (day_of k.0)) xh ∙ same-present x xh ∙ there in
      let entry : entry_of I Q x k.0 ≡ entry_of I P x k.0 =
      tagged-agree (λ x. entry_of I Q x k.0) (λ x. entry_of I P x k.0) (present I Q r.0 (day_of k.0)) (present I P r.0 (day_of k.0)) same-entries x in_list in
      rw entry refl)))

  pub touches_care-same : (c : Cell) → IsCellOf I c → write_touches I Q (SetCare r k n) c ≡ write_touches I P (SetCare r k n) c
  unfolding in_choice
  touches_care-same (Stay q) range = refl
  touches_care-same (RoomDay s d) range = refl
  touches_care-same (TheatreDay t d) range = refl
  touches_care-same (SurgeonDay t d) range = refl
  touches_care-same (RoomShift s l) range = refl
  touches_care-same (NurseShift m l) range = rw same-nurse refl
  touches_care-same (Care x) range = same-present x.0 range

  after-nurse : (s l : ℕ) → l < shift_count I → care_of Q s l ≡ care_of P s l → care_of (put (SetCare r k n) Q) s l ≡ care_of (put (SetCare r k n) P) s l
  after-nurse s l lh e = elim (cases_eq s r.0) [
    | inl here ↦ elim (cases_eq l k.0) [
      | inl now ↦ rw (here, now) (care_of-same I Q r k n planQ room shift ∙ sym (care_of-same I P r k n planP room shift))
      | inr later ↦ rw (care_of-other I Q r k n s l planQ shift lh (λ _ f. later f), care_of-other I P r k n s l planP shift lh (λ _ f. later f)) e
    ]
    | inr there ↦ rw (care_of-other I Q r k n s l planQ shift lh (λ f _. there f), care_of-other I P r k n s l planP shift lh (λ f _. there f)) e
  ]

  after-load_care : (m l : ℕ) → l < shift_count I → load_of I Q m l ≡ load_of I P m l → load_of I (put (SetCare r k n) Q) m l ≡ load_of I (put (SetCare r k n) P) m l
  after-load_care m l lh e = elim (cases_eq l k.0) [
    | inl now ↦
        let e_now : load_of I Q m k.0 ≡ load_of I P m k.0 = rw now at e in
        let changeP = load-moves I P r k n planP room shift m in
        let changeQ = rw (same-nurse, same-load) at (load-moves I Q r k n planQ room shift m) in
        rw now (omega (arith, changeP, changeQ, e_now))
    | inr later ↦ rw (load-kept I Q r k n planQ room shift m l lh later, load-kept I P r k n planP room shift m l lh later) e
  ]

  after-choices : (x : ℕ) → x < person_count I → tagged (nurse_for Q (room_of I Q x)) (shifts_of I Q x) ≡ tagged (nurse_for P (room_of I P x)) (shifts_of I P x)
      → tagged (nurse_for (put (SetCare r k n) Q) (room_of I Q x)) (shifts_of I Q x) ≡ tagged (nurse_for (put (SetCare r k n) P) (room_of I P x)) (shifts_of I P x)
  after-choices x xh e =
      let keys = tagged-agree_keys (nurse_for Q (room_of I Q x)) (nurse_for P (room_of I P x)) (shifts_of I Q x) (shifts_of I P x) e in
      rw keys (tagged-same (nurse_for (put (SetCare r k n) Q) (room_of I Q x)) (nurse_for (put (SetCare r k n) P) (room_of I P x)) (shifts_of I P x) (λ l h.
      let hQ : has l (shifts_of I Q x) ≡ true = rw keys h in
      let before = tagged-agree (nurse_for Q (room_of I Q x)) (nurse_for P (room_of I P x)) (shifts_of I Q x) (shifts_of I P x) e l hQ in
      rw (choice-change I Q r k n planQ room shift x l hQ, choice-change I P r k n planP room shift x l h, same-present x xh, before) refl))

  pub after_care : (c : Cell) → IsCellOf I c → content_of I Q c ≡ content_of I P c → content_of I (put (SetCare r k n) Q) c ≡ content_of I (put (SetCare r k n) P) c
  unfolding content_of operated operated_by present entry_of shifts_of admission_of
  after_care (Stay q) range e = e
  after_care (RoomDay s d) range e = e
  after_care (TheatreDay t d) range e = e
  after_care (SurgeonDay t d) range e = e
  after_care (RoomShift s l) range e =
      let f : nursing_content (care_of Q s.0 l.0) (tagged (λ x. entry_of I Q x l.0) (present I Q s.0 (day_of l.0)))
      ≡ nursing_content (care_of P s.0 l.0) (tagged (λ x. entry_of I P x l.0) (present I P s.0 (day_of l.0))) = e in
      let nurse : care_of Q s.0 l.0 ≡ care_of P s.0 l.0 = cc in
      let people : tagged (λ x. entry_of I Q x l.0) (present I Q s.0 (day_of l.0)) ≡ tagged (λ x. entry_of I P x l.0) (present I P s.0 (day_of l.0)) = cc in
      let after = after-nurse s.0 l.0 range.1 nurse in
      cc
  after_care (NurseShift m l) range e = ap load_content (after-load_care m.0 l.0 range.1 (let f : load_content (load_of I Q m.0 l.0) ≡ load_content (load_of I P m.0 l.0) = e in cc))
  after_care (Care x) range e = ap care_content (after-choices x.0 range
      (let f : care_content (tagged (nurse_for Q (room_of I Q x.0)) (shifts_of I Q x.0)) ≡ care_content (tagged (nurse_for P (room_of I P x.0)) (shifts_of I P x.0)) = e in cc))
