-- A write to a stay changes the content of no cell outside its footprint.
use Rattle.std.proofs.Common.{◌≡◌, ℕ, ◌<◌, refl, arith, sym, ap, ◌∙◌, Bool, true, false, inl, inr, length, Option, Some, None}
use Rattle.std.specs.Prelude.{◌||◌, ◌&&◌, ◌==◌, option_map}
use Rattle.std.proofs.lemmas.Bool.{cases_eq, and_right, eqb-true, eqb-false}
use Rattle.ih_tables.specs.declared.drafts.Draft.{Draft}
use Rattle.ih_tables.specs.declared.ids.PatientNo.{PatientNo}
use Rattle.ih_tables.specs.declared.ids.RoomNo.{RoomNo}
use Rattle.ih_tables.specs.declared.ids.Shift.{Shift}
use Rattle.ih_tables.specs.declared.ids.Day.{Day}
use Rattle.ih_tables.specs.declared.ids.TheatreNo.{TheatreNo}
use Rattle.ih_tables.specs.declared.ids.SurgeonNo.{SurgeonNo}
use Rattle.ih_tables.specs.declared.ids.NurseNo.{NurseNo}
use Rattle.ih_tables.specs.declared.cells.Cell.{Cell}
use Rattle.ih_tables.specs.declared.cells.Cell.TheVariants.{Stay, RoomDay, TheatreDay, SurgeonDay, RoomShift, NurseShift, Care}
use Rattle.ih_tables.specs.Sizes.{patient_count, person_count}
use Rattle.ih_plan.specs.declared.moves.Placement.{Placement}
use Rattle.ih_plan.specs.declared.moves.Write.TheVariants.{SetStay}
use Rattle.ih_plan.specs.Timetable.{Timetable, IsPlanOf, stay_of, care_of}
use Rattle.ih_plan.specs.Writes.{put}
use Rattle.ih_plan.specs.Sums.{which_below}
use Rattle.ih_plan.specs.Persons.{person_of}
use Rattle.ih_plan.specs.Presence.{placed_at, is_in, is_present, present, day_of, entry_of, shifts_of, covers, workload_of}
use Rattle.ih_plan.specs.Costs.{operated, operated_by, operated_in, admitted_on, theatre_of, surgeon_of, is_number}
use Rattle.ih_plan.specs.Cells.{content_of, stay_content, persons_content, surgeries_content, theatres_content, nursing_content, load_content}
use Rattle.ih_plan.specs.Footprint.{write_touches, in_stay, in_placement}
use Rattle.ih_plan.specs.Sums.{tagged}
use Rattle.ih_plan.proofs.ListedBelow.{which_below-same, which_below-has, tagged-same}
use Rattle.ih_plan.proofs.Entries.{stay_of-other, stay_of-same, admission-patient, admission-other, admission-set}
use Rattle.ih_plan.proofs.Loads.{person_load, room_load-same, load_of-same, if-same}

-- a stay puts patient p into room r on day d
abbrev pub at_room : Draft → ℕ → Option Placement → ℕ → ℕ → Bool
at_room I p s r d = is_in (option_map placed_at s) (person_of I p).length_of_stay r d

-- patient p is a patient of surgeon t on day d
abbrev pub of_surgeon : Draft → ℕ → ℕ → ℕ → Option Placement → Bool
of_surgeon I t d p s = is_number (surgeon_of I p) t && admitted_on d s

pub none_of : (a b c : Bool) → (a || b || c) ≡ false → (a ≡ false) × (b ≡ false) × (c ≡ false)
none_of false false false h = (refl, refl, refl)
none_of false false true h = absurd (let no : true ≡ false = h in cc)
none_of false true c h = absurd (let no : true ≡ false = h in cc)
none_of true b c h = absurd (let no : true ≡ false = h in cc)

module _ (I : Draft) (P : Timetable) (p : ℕ) where
  pub in_stay-day : (s : Option Placement) (r : RoomNo) (d : Day) → in_stay I P p s (RoomDay r d) ≡ at_room I p s r.0 d.0
  unfolding in_placement
  in_stay-day None r d = refl
  in_stay-day (Some at) r d = refl

  pub in_stay-shift : (s : Option Placement) (r : RoomNo) (k : Shift) → in_stay I P p s (RoomShift r k) ≡ at_room I p s r.0 (day_of k.0)
  unfolding in_placement
  in_stay-shift None r k = refl
  in_stay-shift (Some at) r k = refl

  pub in_stay-theatre : (s : Option Placement) (t : TheatreNo) (d : Day) → in_stay I P p s (TheatreDay t d) ≡ operated_in t.0 d.0 s
  unfolding in_placement
  in_stay-theatre None t d = refl
  in_stay-theatre (Some at) t d = refl

  pub in_stay-surgeon : (s : Option Placement) (t : SurgeonNo) (d : Day) → in_stay I P p s (SurgeonDay t d) ≡ of_surgeon I t.0 d.0 p s
  unfolding in_placement
  in_stay-surgeon None t d = sym (and_right (is_number (surgeon_of I p) t.0) false refl)
  in_stay-surgeon (Some at) t d = refl

  -- in a room of nurse n
  pub in_stay-nurse : (s : Option Placement) (n : NurseNo) (k : Shift) (r : ℕ) → is_number (care_of P r k.0) n.0 ≡ true
      → in_stay I P p s (NurseShift n k) ≡ false → at_room I p s r (day_of k.0) ≡ false
  unfolding in_placement
  in_stay-nurse None n k r h e = refl
  in_stay-nurse (Some at) n k r h e = by_case (at.room.0 == r) refl
    where
      by_case : (b : Bool) → (at.room.0 == r) ≡ b → (b && covers at.day.0 (person_of I p).length_of_stay (day_of k.0)) ≡ false
      by_case true same =
          let room : at.room.0 ≡ r = eqb-true at.room.0 r same in
          let there : is_number (care_of P at.room.0 k.0) n.0 ≡ true = rw room h in
          rw there at e
      by_case false same = refl

module _ (I : Draft) (P : Timetable) (p : PatientNo) (s : Option Placement) (plan : IsPlanOf I P) (known : p.0 < patient_count I) where
  pub present-before : (r d : ℕ) → is_present I P r d p.0 ≡ at_room I p.0 (stay_of P p.0) r d
  present-before r d = rw (admission-patient I P p.0 known) refl

  pub present-after : (r d : ℕ) → is_present I (put (SetStay p s) P) r d p.0 ≡ at_room I p.0 s r d
  present-after r d = rw (admission-set I P p s plan known) refl

  pub present-other : (r d x : ℕ) → (x ≡ p.0 → ⊥) → is_present I (put (SetStay p s) P) r d x ≡ is_present I P r d x
  present-other r d x ne = rw (admission-other I P p s x ne) refl

  module _ (r d : ℕ) (old : at_room I p.0 (stay_of P p.0) r d ≡ false) (new : at_room I p.0 s r d ≡ false) where
    pub present-each : (x : ℕ) → is_present I (put (SetStay p s) P) r d x ≡ is_present I P r d x
    present-each x = elim (cases_eq x p.0) [
      | inl same ↦ rw same (present-after r d ∙ new ∙ sym (present-before r d ∙ old))
      | inr other ↦ present-other r d x other
    ]

    pub present-apart : present I (put (SetStay p s) P) r d ≡ present I P r d
    unfolding present
    present-apart = which_below-same (person_count I) (is_present I (put (SetStay p s) P) r d) (is_present I P r d) (λ x h. present-each x)

    -- whoever is there has its old admission
    pub there-other : (x : ℕ) → is_present I P r d x ≡ true → x ≡ p.0 → ⊥
    there-other x h same =
        let here : is_present I P r d p.0 ≡ true = rw same at h in
        let no : false ≡ true = sym (present-before r d ∙ old) ∙ here in
        cc

  there-entries : (r k : ℕ) → at_room I p.0 (stay_of P p.0) r (day_of k) ≡ false → at_room I p.0 s r (day_of k) ≡ false
      → tagged (λ x. entry_of I (put (SetStay p s) P) x k) (present I (put (SetStay p s) P) r (day_of k))
      ≡ tagged (λ x. entry_of I P x k) (present I P r (day_of k))
  unfolding present entry_of
  there-entries r k old new = rw (present-apart r (day_of k) old new)
      (tagged-same (λ x. entry_of I (put (SetStay p s) P) x k) (λ x. entry_of I P x k) (present I P r (day_of k))
      (λ x h. rw (admission-other I P p s x (there-other r (day_of k) old new x (which_below-has (person_count I) x (is_present I P r (day_of k)) h).1)) refl))

  there-load : (r k : ℕ) → at_room I p.0 (stay_of P p.0) r (day_of k) ≡ false → at_room I p.0 s r (day_of k) ≡ false
      → (x : ℕ) → person_load I (put (SetStay p s) P) k r x ≡ person_load I P k r x
  unfolding entry_of
  there-load r k old new x = rw (present-each r (day_of k) old new x) (if-same (is_present I P r (day_of k) x) (workload_of I (put (SetStay p s) P) k x) (workload_of I P k x) 0
      (λ h. rw (admission-other I P p s x (there-other r (day_of k) old new x h)) refl))

  -- a test of each patient's stay that p passes neither before nor after
  test-apart : (passes : ℕ → Option Placement → Bool) → passes p.0 (stay_of P p.0) ≡ false → passes p.0 s ≡ false
      → (x : ℕ) → passes x (stay_of (put (SetStay p s) P) x) ≡ passes x (stay_of P x)
  test-apart passes old new x =
      let sizes = plan.stays in
      let inside : p.0 < length P.stays = omega arith in
      elim (cases_eq x p.0) [
        | inl same ↦ rw (same, stay_of-same P p s inside, old) new
        | inr other ↦ rw (stay_of-other P p s x other) refl
      ]

  patients-apart : (t d : ℕ) → of_surgeon I t d p.0 (stay_of P p.0) ≡ false → of_surgeon I t d p.0 s ≡ false
      → tagged (theatre_of (put (SetStay p s) P)) (operated_by I (put (SetStay p s) P) t d) ≡ tagged (theatre_of P) (operated_by I P t d)
  unfolding operated_by
  patients-apart t d old new =
      let same = which_below-same (patient_count I) (λ x. of_surgeon I t d x (stay_of (put (SetStay p s) P) x)) (λ x. of_surgeon I t d x (stay_of P x))
      (λ x h. test-apart (of_surgeon I t d) old new x) in
      rw same (tagged-same (theatre_of (put (SetStay p s) P)) (theatre_of P) (which_below (patient_count I) (λ x. of_surgeon I t d x (stay_of P x)))
      (λ x h. rw (stay_of-other P p s x (λ e.
      let here : of_surgeon I t d p.0 (stay_of P p.0) ≡ true = rw e at (which_below-has (patient_count I) x (λ x. of_surgeon I t d x (stay_of P x)) h).1 in
      let no : false ≡ true = sym old ∙ here in
      cc)) refl))

  pub frame_stay : (c : Cell) → write_touches I P (SetStay p s) c ≡ false → content_of I (put (SetStay p s) P) c ≡ content_of I P c
  unfolding content_of in_placement operated shifts_of
  frame_stay (Stay q) h =
      let apart = none_of (p.0 == q.0) (in_stay I P p.0 (stay_of P p.0) (Stay q)) (in_stay I P p.0 s (Stay q)) h in
      ap stay_content (stay_of-other P p s q.0 (λ e. eqb-false p.0 q.0 apart.0 (sym e)))
  frame_stay (RoomDay r d) h =
      let apart = none_of false (in_stay I P p.0 (stay_of P p.0) (RoomDay r d)) (in_stay I P p.0 s (RoomDay r d)) h in
      ap persons_content (present-apart r.0 d.0 (sym (in_stay-day I P p.0 (stay_of P p.0) r d) ∙ apart.1) (sym (in_stay-day I P p.0 s r d) ∙ apart.2))
  frame_stay (TheatreDay t d) h =
      let apart = none_of false (in_stay I P p.0 (stay_of P p.0) (TheatreDay t d)) (in_stay I P p.0 s (TheatreDay t d)) h in
      ap surgeries_content (which_below-same (patient_count I) (λ x. operated_in t.0 d.0 (stay_of (put (SetStay p s) P) x)) (λ x. operated_in t.0 d.0 (stay_of P x))
      (λ x xh. test-apart (λ x o. operated_in t.0 d.0 o) (sym (in_stay-theatre I P p.0 (stay_of P p.0) t d) ∙ apart.1) (sym (in_stay-theatre I P p.0 s t d) ∙ apart.2) x))
  frame_stay (SurgeonDay t d) h =
      let apart = none_of false (in_stay I P p.0 (stay_of P p.0) (SurgeonDay t d)) (in_stay I P p.0 s (SurgeonDay t d)) h in
      ap theatres_content (patients-apart t.0 d.0 (sym (in_stay-surgeon I P p.0 (stay_of P p.0) t d) ∙ apart.1) (sym (in_stay-surgeon I P p.0 s t d) ∙ apart.2))
  frame_stay (RoomShift r k) h =
      let apart = none_of false (in_stay I P p.0 (stay_of P p.0) (RoomShift r k)) (in_stay I P p.0 s (RoomShift r k)) h in
      ap (nursing_content (care_of P r.0 k.0)) (there-entries r.0 k.0 (sym (in_stay-shift I P p.0 (stay_of P p.0) r k) ∙ apart.1) (sym (in_stay-shift I P p.0 s r k) ∙ apart.2))
  frame_stay (NurseShift n k) h =
      let apart = none_of false (in_stay I P p.0 (stay_of P p.0) (NurseShift n k)) (in_stay I P p.0 s (NurseShift n k)) h in
      ap load_content (load_of-same I (put (SetStay p s) P) P n.0 k.0 (λ r rh.
      if-same (is_number (care_of P r k.0) n.0) _ _ 0 (λ nh. room_load-same I (put (SetStay p s) P) P k.0 r (λ x xh.
      there-load r k.0 (in_stay-nurse I P p.0 (stay_of P p.0) n k r nh apart.1) (in_stay-nurse I P p.0 s n k r nh apart.2) x))))
  frame_stay (Care x) h =
      let apart = none_of (p.0 == x.0) (in_stay I P p.0 (stay_of P p.0) (Care x)) (in_stay I P p.0 s (Care x)) h in
      rw (admission-other I P p s x.0 (λ e. eqb-false p.0 x.0 apart.0 (sym e))) refl
