-- What one more write adds to the timetable that is kept.
use Rattle.std.proofs.Common.{◌≡◌, ◌∙◌, ℕ, ◌+◌, ◌<◌, List, length, refl, sym, ap, subst, arith, inl, inr, Option, Some, None}
use Rattle.std.specs.Prelude.{IfSome, option_and_then, option_map, slice_get}
use Rattle.std.proofs.lemmas.Bool.{cases_eq}
use Rattle.ih_tables.specs.declared.ids.NurseNo.{NurseNo}
use Rattle.ih_tables.specs.declared.ids.PatientNo.{PatientNo}
use Rattle.ih_tables.specs.declared.ids.RoomNo.{RoomNo}
use Rattle.ih_tables.specs.declared.ids.Shift.{Shift}
use Rattle.ih_tables.specs.Sizes.{nurse_count, patient_count, room_count, shift_count}
use Rattle.ih_plan.specs.declared.moves.Placement.{Placement}
use Rattle.ih_plan.specs.declared.moves.Write.TheVariants.{SetCare, SetStay}
use Rattle.ih_plan.specs.Timetable.{IsPlacement, IsPlanOf, Timetable, care_of, choice_of, stay_of}
use Rattle.ih_plan.specs.Writes.{IsWriteOf, put}
use Rattle.ih_plan.proofs.Entries.{care_of-other, care_of-same, stay_of-other, stay_of-same}
use Rattle.ih_carry.specs.Handovers.{HandoverData, HasNurses, HasStays, kept_nurse, kept_stay}
use Rattle.ih_carry.specs.Ids.{nurse_no}
use Rattle.ih_carry.proofs.Known.{nurse-found}

-- what holds of what an option has
pub of-some : {A : Type 0} (B : A → Type 0) (o : Option A) → IfSome o B → (x : A) → o ≡ Some x → B x
of-some B None h x e = absurd (let no : None ≡ Some x = e in cc)
of-some B (Some y) h x e = let same : y ≡ x = (let f : Some y ≡ Some x = e in cc) in subst B same h

-- ---- choices of nurses, by their numbers

choice-number : (P : Timetable) (r k : ℕ) → choice_of P r k ≡ option_map nurse_no (care_of P r k)
choice-number P r k = nurse-found (choice_of P r k) (care_of P r k) refl

-- the first k shifts of room r have the nurses that they keep
pub record HasOwn (h : HandoverData) (r n : ℕ) (Q : Timetable) : Type 0 where
  pub each : (k : ℕ) → k < n → choice_of Q r k ≡ kept_nurse h r k

module _ (h : HandoverData) (Q : Timetable) where
  pub no-stays : HasStays h 0 Q
  no-stays = record { each = λ q l. absurd (omega arith) }

  pub no-nurses : HasNurses h 0 Q
  no-nurses = record { each = λ r k l m. absurd (omega arith) }

  pub no-own : (r : ℕ) → HasOwn h r 0 Q
  no-own r = record { each = λ k l. absurd (omega arith) }

  -- ---- a stay

  pub stay-write : (q : PatientNo) (s : Option Placement) → q.0 < patient_count h.next → IfSome s (IsPlacement h.next)
      → IsWriteOf h.next (SetStay q s)
  stay-write q s known fits = (known, of-some (IsPlacement h.next) s fits)

  pub more-stays : (q : PatientNo) (s : Option Placement) → IsPlanOf h.next Q → q.0 < patient_count h.next → s ≡ kept_stay h q.0
      → HasStays h q.0 Q → HasStays h (q.0 + 1) (put (SetStay q s) Q)
  more-stays q s fits known is so_far = record {
    each = λ x l. elim (cases_eq x q.0) [
      | inl own ↦
          let sizes : length Q.stays ≡ patient_count h.next = fits.stays in
          let inside : q.0 < length Q.stays = omega arith in
          ap (stay_of (put (SetStay q s) Q)) own ∙ (stay_of-same Q q s inside ∙ (is ∙ ap (kept_stay h) (sym own)))
      | inr other ↦ stay_of-other Q q s x other ∙ so_far.each x (omega arith)
    ];
  }

  -- stays are the same where the lists of stays are
  pub same-stays : (n : ℕ) (P : Timetable) → P.stays ≡ Q.stays → HasStays h n Q → HasStays h n P
  same-stays n P same has = record {
    each = λ q l. ap (λ (s : List (Option Placement)). option_and_then (λ (o : Option Placement). o) (slice_get s q)) same ∙ has.each q l;
  }

  -- ---- a nurse

  pub care-write : (r : RoomNo) (k : Shift) (n : Option NurseNo) → r.0 < room_count h.next → k.0 < shift_count h.next
      → IfSome n (λ m. m.0 < nurse_count h.next) → IsWriteOf h.next (SetCare r k n)
  care-write r k n room shift fits = (room, shift, of-some (λ (m : NurseNo). m.0 < nurse_count h.next) n fits)

  module _ (r : RoomNo) (k : Shift) (n : Option NurseNo) (fits : IsPlanOf h.next Q) (room : r.0 < room_count h.next) (shift : k.0 < shift_count h.next) where
    written : choice_of (put (SetCare r k n) Q) r.0 k.0 ≡ n
    written =
        choice-number (put (SetCare r k n) Q) r.0 k.0
        ∙ (ap (option_map nurse_no) (care_of-same h.next Q r k n fits room shift) ∙ sym (nurse-found n (option_map (λ (m : NurseNo). m.0) n) refl))

    unwritten : (s l : ℕ) → l < shift_count h.next → (s ≡ r.0 → l ≡ k.0 → ⊥) → choice_of (put (SetCare r k n) Q) s l ≡ choice_of Q s l
    unwritten s l later other =
        choice-number (put (SetCare r k n) Q) s l
        ∙ (ap (option_map nurse_no) (care_of-other h.next Q r k n s l fits shift later other) ∙ sym (choice-number Q s l))

    pub more-own : n ≡ kept_nurse h r.0 k.0 → HasOwn h r.0 k.0 Q → HasOwn h r.0 (k.0 + 1) (put (SetCare r k n) Q)
    more-own is so_far = record {
      each = λ l below. elim (cases_eq l k.0) [
        | inl own ↦ ap (choice_of (put (SetCare r k n) Q) r.0) own ∙ (written ∙ (is ∙ ap (kept_nurse h r.0) (sym own)))
        | inr other ↦ unwritten r.0 l (omega arith) (λ e same. other same) ∙ so_far.each l (omega arith)
      ];
    }

    -- the rooms before it stay as they are
    pub same-nurses : HasNurses h r.0 Q → HasNurses h r.0 (put (SetCare r k n) Q)
    same-nurses has = record {
      each = λ s l below within. unwritten s l within (λ e same. omega arith) ∙ has.each s l below within;
    }

  pub more-nurses : (r : ℕ) → HasNurses h r Q → HasOwn h r (shift_count h.next) Q → HasNurses h (r + 1) Q
  more-nurses r has own = record {
    each = λ s k below within. elim (cases_eq s r) [
      | inl here ↦ ap (λ (i : ℕ). choice_of Q i k) here ∙ (own.each k within ∙ ap (λ (i : ℕ). kept_nurse h i k) (sym here))
      | inr other ↦ has.each s k (omega arith) within
    ];
  }
