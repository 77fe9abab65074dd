-- A write to a choice changes the content of no cell outside its footprint.
use Rattle.std.proofs.Common.{◌≡◌, ℕ, ◌+◌, ◌-◌, ◌*◌, ◌/◌, ◌<◌, refl, arith, sym, ap, ◌∙◌, true, false, inl, inr, Option, Some, None}
use Rattle.std.specs.Prelude.{◌||◌, ◌&&◌, ◌==◌, option_map, nat_le, nat_lt, min}
use Rattle.std.proofs.lemmas.Bool.{cases_eq, eq-eqb, le-leb, lt-ltb, and_from, or_parts}
use Rattle.ih_tables.specs.declared.drafts.Draft.{Draft}
use Rattle.ih_tables.specs.declared.ids.RoomNo.{RoomNo}
use Rattle.ih_tables.specs.declared.ids.Shift.{Shift}
use Rattle.ih_tables.specs.declared.ids.NurseNo.{NurseNo}
use Rattle.ih_tables.specs.declared.cells.Cell.{Cell}
use Rattle.ih_tables.specs.declared.cells.Cell.TheVariants.{Stay, RoomDay, TheatreDay, SurgeonDay, RoomShift, NurseShift, Care}
use Rattle.ih_tables.specs.Sizes.{room_count, shift_count}
use Rattle.ih_plan.specs.declared.moves.Write.TheVariants.{SetCare}
use Rattle.ih_plan.specs.Timetable.{Timetable, IsPlanOf, care_of}
use Rattle.ih_plan.specs.Writes.{put}
use Rattle.ih_plan.specs.Persons.{person_of}
use Rattle.ih_plan.specs.Presence.{Admission, admission_of, is_in, is_present, present, day_of, entry_of, shifts_of, shifts_in, room_of, covers}
use Rattle.ih_plan.specs.Costs.{nurse_for, operated, operated_by, is_number}
use Rattle.ih_plan.specs.Cells.{IsCellOf, content_of, load_content, care_content, nursing_content}
use Rattle.ih_plan.specs.Footprint.{write_touches, in_choice}
use Rattle.ih_plan.specs.Sums.{tagged}
use Rattle.ih_plan.proofs.ListedBelow.{has, tagged-same}
use Rattle.ih_plan.proofs.PlanRanges.{has-range}
use Rattle.ih_plan.proofs.Entries.{care_of-same, care_of-other}
use Rattle.ih_plan.proofs.Loads.{nurse_load, load_of-same, room_load-kept}

-- the counted shifts are on days of the stay, within the horizon
pub counted-covers : (I : Draft) (a : Admission) (n k : ℕ) → has k (shifts_in I (Some a) n) ≡ true → (covers a.day n (day_of k) ≡ true) × (k < shift_count I)
counted-covers I a n k h =
    let within = has-range (3 * a.day) (3 * (min (a.day + n) I.days - a.day)) k h in
    (and_from (nat_le a.day (k / 3)) (nat_lt (k / 3) (a.day + n)) (le-leb a.day (k / 3) (omega arith)) (lt-ltb (k / 3) (a.day + n) (omega arith)), omega arith)

-- a person is in its room in each counted shift
pub counted-present : (I : Draft) (P : Timetable) (x r k : ℕ) → room_of I P x ≡ Some r → has k (shifts_of I P x) ≡ true
    → (is_present I P r (day_of k) x ≡ true) × (k < shift_count I)
unfolding shifts_of
counted-present I P x r k = by_case (admission_of I P x)
  where
    by_case : (o : Option Admission) → option_map (λ (a : Admission). a.room) o ≡ Some r → has k (shifts_in I o (person_of I x).length_of_stay) ≡ true
        → (is_in o (person_of I x).length_of_stay r (day_of k) ≡ true) × (k < shift_count I)
    by_case None e h = absurd (let no : false ≡ true = h in cc)
    by_case (Some a) e h =
        let room : a.room ≡ r = cc in
        let counted = counted-covers I a (person_of I x).length_of_stay k h in
        (and_from (a.room == r) (covers a.day (person_of I x).length_of_stay (day_of k)) (eq-eqb a.room r room) counted.0, counted.1)

pub pair-apart : (r s k l : ℕ) → ((r == s) && (k == l)) ≡ false → s ≡ r → l ≡ k → ⊥
pair-apart r s k l h e f =
    let here = and_from (r == s) (k == l) (eq-eqb r s (sym e)) (eq-eqb k l (sym f)) in
    let no : false ≡ true = sym h ∙ here in
    cc

module _ (I : Draft) (P : Timetable) (r : RoomNo) (k : Shift) (n : Option NurseNo) (plan : IsPlanOf I P)
    (room : r.0 < room_count I) (shift : k.0 < shift_count I) where
  -- a nurse's load in another shift, or where neither nurse of the write is the nurse
  load-apart : (m l : ℕ) → l < shift_count I → ((k.0 == l) && (is_number (care_of P r.0 k.0) m || is_number (option_map (λ (m : NurseNo). m.0) n) m)) ≡ false
      → (s : ℕ) → nurse_load I (put (SetCare r k n) P) m l s ≡ nurse_load I P m l s
  load-apart m l lh h s = elim (cases_eq s r.0) [
    | inl same ↦ elim (cases_eq l k.0) [
      | inl now ↦ rw (same, now) (here now)
      | inr then ↦ there (λ e f. then f)
    ]
    | inr other ↦ there (λ e f. other e)
  ]
    where
      there : (s ≡ r.0 → l ≡ k.0 → ⊥) → nurse_load I (put (SetCare r k n) P) m l s ≡ nurse_load I P m l s
      there ne = rw (care_of-other I P r k n s l plan shift lh ne, room_load-kept I P r k n l s) refl

      here : l ≡ k.0 → nurse_load I (put (SetCare r k n) P) m k.0 r.0 ≡ nurse_load I P m k.0 r.0
      here now =
          let test : (is_number (care_of P r.0 k.0) m || is_number (option_map (λ (m : NurseNo). m.0) n) m) ≡ false = rw (eq-eqb k.0 l (sym now)) at h in
          let neither = or_parts (is_number (care_of P r.0 k.0) m) (is_number (option_map (λ (m : NurseNo). m.0) n) m) test in
          rw (care_of-same I P r k n plan room shift, neither.0, neither.1) refl

  choices-apart : (x : ℕ) → is_present I P r.0 (day_of k.0) x ≡ false
      → (l : ℕ) → has l (shifts_of I P x) ≡ true → nurse_for (put (SetCare r k n) P) (room_of I P x) l ≡ nurse_for P (room_of I P x) l
  choices-apart x h l counted = by_case (room_of I P x) refl
    where
      by_case : (o : Option ℕ) → room_of I P x ≡ o → nurse_for (put (SetCare r k n) P) o l ≡ nurse_for P o l
      by_case None e = refl
      by_case (Some s) e =
          let there = counted-present I P x s l e counted in
          care_of-other I P r k n s l plan shift there.1 (λ same now.
          let here : is_present I P r.0 (day_of k.0) x ≡ true = rw (same, now) at there.0 in
          let no : false ≡ true = sym h ∙ here in
          cc)

  pub frame_care : (c : Cell) → IsCellOf I c → write_touches I P (SetCare r k n) c ≡ false → content_of I (put (SetCare r k n) P) c ≡ content_of I P c
  unfolding content_of in_choice operated operated_by present entry_of shifts_of admission_of
  frame_care (Stay q) range h = refl
  frame_care (RoomDay s d) range h = refl
  frame_care (TheatreDay t d) range h = refl
  frame_care (SurgeonDay t d) range h = refl
  frame_care (RoomShift s l) range h =
      ap (λ o. nursing_content o (tagged (λ x. entry_of I P x l.0) (present I P s.0 (day_of l.0))))
      (care_of-other I P r k n s.0 l.0 plan shift range.1 (pair-apart r.0 s.0 k.0 l.0 h))
  frame_care (NurseShift m l) range h =
      ap load_content (load_of-same I (put (SetCare r k n) P) P m.0 l.0 (λ s sh. load-apart m.0 l.0 range.1 h s))
  frame_care (Care x) range h =
      ap care_content (tagged-same (nurse_for (put (SetCare r k n) P) (room_of I P x.0)) (nurse_for P (room_of I P x.0)) (shifts_of I P x.0)
      (λ l counted. choices-apart x.0 h l counted))
