-- What a stay adds to the bill is a part by its room and its day, and a part by its theatre and its day.
use mathlib.Core.Path.{fun_ext}
use Rattle.std.proofs.Common.{◌≡◌, ℕ, ◌+◌, ◌-◌, ◌<◌, refl, sym, ◌∙◌, ap, arith, List, length, map, Option, Some, pos, inl, inr}
use Rattle.std.specs.Prelude.{◌&&◌, nat_lt, slice_get, slice_index, option_map, sum_by, if◌then◌else◌}
use Rattle.std.proofs.lemmas.Bool.{cases_eq}
use Rattle.ih_tables.specs.declared.drafts.Draft.{Draft}
use Rattle.ih_tables.specs.declared.ids.PatientNo.{PatientNo}
use Rattle.ih_tables.specs.declared.ids.PersonNo.{PersonNo}
use Rattle.ih_tables.specs.declared.ids.RoomNo.{RoomNo}
use Rattle.ih_tables.specs.declared.ids.TheatreNo.{TheatreNo}
use Rattle.ih_tables.specs.declared.ids.SurgeonNo.{SurgeonNo}
use Rattle.ih_tables.specs.declared.ids.NurseNo.{NurseNo}
use Rattle.ih_tables.specs.declared.ids.Day.{Day}
use Rattle.ih_tables.specs.declared.ids.Shift.{Shift}
use Rattle.ih_tables.specs.declared.cells.Cell.{Cell}
use Rattle.ih_tables.specs.declared.cells.Cell.TheVariants.{Stay, RoomDay, TheatreDay, SurgeonDay, RoomShift, NurseShift, Care}
use Rattle.ih_tables.specs.Sizes.{patient_count, person_count, room_count}
use Rattle.ih_tables.specs.Bills.{at}
use Rattle.ih_plan.specs.declared.moves.Placement.{Placement}
use Rattle.ih_plan.specs.declared.moves.Write.TheVariants.{SetStay}
use Rattle.ih_plan.specs.Timetable.{Timetable, IsPlanOf, stay_of, care_of}
use Rattle.ih_plan.specs.Writes.{put}
use Rattle.ih_plan.specs.Persons.{person_of}
use Rattle.ih_plan.specs.Presence.{Admission, day_of, placed_at, stays_at, admission_of, is_in, present, shifts_in, shifts_of, entry_in, entry_of}
use Rattle.ih_plan.specs.Sums.{sum_below, which_below, tagged}
use Rattle.ih_tables.specs.Listed.{listed}
use Rattle.ih_plan.specs.Costs.{surgeon_of, is_number, operated_in, admitted_on, operated, operated_by, theatre_of, nurse_for, load_of}
use Rattle.ih_plan.specs.BillOf.{Counts, bill_of}
use Rattle.ih_plan.specs.Cells.{Content, persons_content, surgeries_content, theatres_content, nursing_content, load_content, care_content, stay_content, content_of, part_of, part_at, cell_at, cell_count}
use Rattle.ih_plan.proofs.Entries.{stay_of-other, stay_of-same}
use Rattle.ih_plan.proofs.Parts.{total, has_parts}
use Rattle.ih_plan.proofs.SumLemmas.{sum_below-same}
use Rattle.ih_plan.proofs.SumBounds.{sum_below-add}
use Rattle.ih_footprint.proofs.LocalPrices.{at-listed}
use Rattle.ih_fill.proofs.ScoreLemmas.{AreBalanced, AreEven}
use Rattle.ih_fill.specs.Candidates.{placed}

-- the timetable with patient p there
abbrev pub stayed : Timetable → PatientNo → Placement → Timetable
stayed P p at = put (SetStay p (Some at)) P

-- ---- what rests on who is where

-- the persons in a room on a day, by the admission of each
abbrev people : Draft → (ℕ → Option Admission) → ℕ → ℕ → List ℕ
people I f r d = which_below (person_count I) (λ x. is_in (f x) (person_of I x).length_of_stay r d)

-- the content of a cell that rests on admissions and nurses
abbrev housed : Draft → Timetable → (ℕ → Option Admission) → Cell → Content
housed I P f (RoomDay r d) = persons_content (people I f r.0 d.0)
housed I P f (RoomShift r k) = nursing_content (care_of P r.0 k.0) (tagged (λ x. entry_in (f x) k.0) (people I f r.0 (day_of k.0)))
housed I P f (NurseShift n k) = load_content (sum_below (room_count I) (λ r.
    if is_number (care_of P r k.0) n.0 then sum_by (λ x. slice_index (person_of I x).workload (entry_in (f x) k.0)) (people I f r (day_of k.0)) else 0))
housed I P f (Care x) = care_content (tagged (nurse_for P (option_map (λ (a : Admission). a.room) (f x.0))) (shifts_in I (f x.0) (person_of I x.0).length_of_stay))
housed I P f c = load_content 0

module _ (I : Draft) (P : Timetable) (p : PatientNo) (plan : IsPlanOf I P) (inside : p.0 < patient_count I) where
  -- what two stays agree on, all stays agree on
  stays-agree : {A : Type 0} (h : Option Placement → A) (a b : Placement) → h (Some a) ≡ h (Some b) → (x : ℕ) → h (stay_of (stayed P p a) x) ≡ h (stay_of (stayed P p b) x)
  stays-agree h a b e x =
      let sizes : length P.stays ≡ patient_count I = plan.stays in
      let within : p.0 < length P.stays = omega arith in
      elim (cases_eq x p.0) [
        | inl same ↦ rw same (ap h (stay_of-same P p (Some a) within) ∙ (e ∙ ap h (sym (stay_of-same P p (Some b) within))))
        | inr other ↦ ap h (stay_of-other P p (Some a) x other ∙ sym (stay_of-other P p (Some b) x other))
      ]

  admissions-agree : (a b : Placement) → placed_at a ≡ placed_at b → admission_of I (stayed P p a) ≡ admission_of I (stayed P p b)
  unfolding admission_of
  admissions-agree a b e = fun_ext (λ x.
      ap (λ o. if nat_lt x (patient_count I) then o else option_map stays_at (slice_get I.occupants (x - patient_count I))) (stays-agree (option_map placed_at) a b (ap Some e) x))

  -- the part of a cell, where the theatre doesn't matter
  by_room_day : (a b : Placement) → placed_at a ≡ placed_at b → (r : RoomNo) (d : Day) → part_at I (stayed P p a) (RoomDay r d) ≡ part_at I (stayed P p b) (RoomDay r d)
  unfolding content_of present
  by_room_day a b e r d = ap (λ f. part_of I (RoomDay r d) (housed I P f (RoomDay r d))) (admissions-agree a b e)

  by_room_shift : (a b : Placement) → placed_at a ≡ placed_at b → (r : RoomNo) (k : Shift) → part_at I (stayed P p a) (RoomShift r k) ≡ part_at I (stayed P p b) (RoomShift r k)
  unfolding content_of present entry_of
  by_room_shift a b e r k = ap (λ f. part_of I (RoomShift r k) (housed I P f (RoomShift r k))) (admissions-agree a b e)

  by_nurse_shift : (a b : Placement) → placed_at a ≡ placed_at b → (n : NurseNo) (k : Shift) → part_at I (stayed P p a) (NurseShift n k) ≡ part_at I (stayed P p b) (NurseShift n k)
  unfolding content_of present entry_of load_of
  by_nurse_shift a b e n k = ap (λ f. part_of I (NurseShift n k) (housed I P f (NurseShift n k))) (admissions-agree a b e)

  by_care : (a b : Placement) → placed_at a ≡ placed_at b → (x : PersonNo) → part_at I (stayed P p a) (Care x) ≡ part_at I (stayed P p b) (Care x)
  unfolding content_of shifts_of
  by_care a b e x = ap (λ f. part_of I (Care x) (housed I P f (Care x))) (admissions-agree a b e)

  by_stay : (d r t u : ℕ) (q : PatientNo) → part_at I (stayed P p (placed d r t)) (Stay q) ≡ part_at I (stayed P p (placed d r u)) (Stay q)
  unfolding content_of part_of
  by_stay d r t u q = stays-agree (λ s. part_of I (Stay q) (stay_content s)) (placed d r t) (placed d r u) refl q.0

  -- where the room doesn't matter
  by_theatre : (d r s t : ℕ) (c : TheatreNo) (e : Day) → part_at I (stayed P p (placed d r t)) (TheatreDay c e) ≡ part_at I (stayed P p (placed d s t)) (TheatreDay c e)
  unfolding content_of operated
  by_theatre d r s t c e =
      ap (λ f. part_of I (TheatreDay c e) (surgeries_content (which_below (patient_count I) f))) (fun_ext (stays-agree (operated_in c.0 e.0) (placed d r t) (placed d s t) refl))

  by_surgeon : (d r s t : ℕ) (c : SurgeonNo) (e : Day) → part_at I (stayed P p (placed d r t)) (SurgeonDay c e) ≡ part_at I (stayed P p (placed d s t)) (SurgeonDay c e)
  unfolding content_of operated_by
  by_surgeon d r s t c e =
      ap (λ f. part_of I (SurgeonDay c e) (theatres_content (tagged f (operated_by I (stayed P p (placed d r t)) c.0 e.0))))
      (fun_ext (stays-agree (option_map (λ (at : Placement). at.theatre.0)) (placed d r t) (placed d s t) refl))
      ∙ ap (λ f. part_of I (SurgeonDay c e) (theatres_content (tagged (theatre_of (stayed P p (placed d s t))) (which_below (patient_count I) f))))
      (fun_ext (admitted-alike d r s t c e))
    where
      admitted-alike : (d r s t : ℕ) (c : SurgeonNo) (e : Day) (x : ℕ)
          → (is_number (surgeon_of I x) c.0 && admitted_on e.0 (stay_of (stayed P p (placed d r t)) x))
          ≡ (is_number (surgeon_of I x) c.0 && admitted_on e.0 (stay_of (stayed P p (placed d s t)) x))
      admitted-alike d r s t c e x = ap (λ b. is_number (surgeon_of I x) c.0 && b) (stays-agree (admitted_on e.0) (placed d r t) (placed d s t) refl x)

  pairs-straight : (g : Counts → ℕ) (a b c d : Counts) → a ≡ c → b ≡ d → g a + g b ≡ g c + g d
  pairs-straight g a b c d e f = rw (e, f) refl

  pairs-turned : (g : Counts → ℕ) (a b c d : Counts) → a ≡ d → b ≡ c → g a + g b ≡ g c + g d
  pairs-turned g a b c d e f = rw (e, f) (omega arith)

  parts-crossed : (g : Counts → ℕ) (d r s t u : ℕ) (c : Cell)
      → g (part_at I (stayed P p (placed d r t)) c) + g (part_at I (stayed P p (placed d s u)) c) ≡ g (part_at I (stayed P p (placed d r u)) c) + g (part_at I (stayed P p (placed d s t)) c)
  parts-crossed g d r s t u (Stay q) = pairs-straight g _ _ _ _ (by_stay d r t u q) (by_stay d s u t q)
  parts-crossed g d r s t u (RoomDay x y) = pairs-straight g _ _ _ _ (by_room_day (placed d r t) (placed d r u) refl x y) (by_room_day (placed d s u) (placed d s t) refl x y)
  parts-crossed g d r s t u (TheatreDay x y) = pairs-turned g _ _ _ _ (by_theatre d r s t x y) (by_theatre d s r u x y)
  parts-crossed g d r s t u (SurgeonDay x y) = pairs-turned g _ _ _ _ (by_surgeon d r s t x y) (by_surgeon d s r u x y)
  parts-crossed g d r s t u (RoomShift x k) = pairs-straight g _ _ _ _ (by_room_shift (placed d r t) (placed d r u) refl x k) (by_room_shift (placed d s u) (placed d s t) refl x k)
  parts-crossed g d r s t u (NurseShift n k) = pairs-straight g _ _ _ _ (by_nurse_shift (placed d r t) (placed d r u) refl n k) (by_nurse_shift (placed d s u) (placed d s t) refl n k)
  parts-crossed g d r s t u (Care x) = pairs-straight g _ _ _ _ (by_care (placed d r t) (placed d r u) refl x) (by_care (placed d s u) (placed d s t) refl x)

  -- the sum over all cells
  totals-crossed : (g : Counts → ℕ) (d r s t u : ℕ)
      → total I (λ c. g (part_at I (stayed P p (placed d r t)) c)) + total I (λ c. g (part_at I (stayed P p (placed d s u)) c))
      ≡ total I (λ c. g (part_at I (stayed P p (placed d r u)) c)) + total I (λ c. g (part_at I (stayed P p (placed d s t)) c))
  totals-crossed g d r s t u =
      let part = λ (at : Placement) (n : ℕ). g (part_at I (stayed P p at) (cell_at I n)) in
      sym (sum_below-add (cell_count I) (part (placed d r t)) (part (placed d s u)))
      ∙ (sum_below-same (cell_count I) (λ n. part (placed d r t) n + part (placed d s u) n) (λ n. part (placed d r u) n + part (placed d s t) n) (λ n h. parts-crossed g d r s t u (cell_at I n))
      ∙ sum_below-add (cell_count I) (part (placed d r u)) (part (placed d s t)))

  -- some numbers of the parts, over all cells
  abbrev totals : Placement → (Counts → List ℕ) → ℕ → ℕ
  totals x g j = total I (λ c. slice_index (g (part_at I (stayed P p x) c)) j)

  totals-even : (m : ℕ) (g : Counts → List ℕ) (d r s t u k : ℕ) → k < m
      → AreEven (at (map pos (listed m (totals (placed d r t) g))) k) (at (map pos (listed m (totals (placed d s u) g))) k)
      (at (map pos (listed m (totals (placed d r u) g))) k) (at (map pos (listed m (totals (placed d s t) g))) k)
  totals-even m g d r s t u k below =
      rw (at-listed m (totals (placed d r t) g) k below, at-listed m (totals (placed d s u) g) k below, at-listed m (totals (placed d r u) g) k below, at-listed m (totals (placed d s t) g) k below)
      (ap pos (totals-crossed (λ c. slice_index (g c) k) d r s t u))

  -- A stay in room r and theatre t and one in room s and theatre u cost together what they cost with the theatres
  -- exchanged.
  pub bills-balanced : (d r s t u : ℕ)
      → AreBalanced (bill_of I (stayed P p (placed d r t))) (bill_of I (stayed P p (placed d s u))) (bill_of I (stayed P p (placed d r u))) (bill_of I (stayed P p (placed d s t)))
  bills-balanced d r s t u =
      rw (has_parts I (stayed P p (placed d r t)), has_parts I (stayed P p (placed d s u)), has_parts I (stayed P p (placed d r u)), has_parts I (stayed P p (placed d s t)))
      (record { v = totals-even 9 (λ c. c.v) d r s t u; s = totals-even 8 (λ c. c.s) d r s t u })
