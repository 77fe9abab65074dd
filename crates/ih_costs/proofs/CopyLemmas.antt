-- Entries that are taken over one by one.
use Rattle.std.proofs.Common.{◌≡◌, ℕ, zero, suc, ◌+◌, ◌*◌, ◌<◌, refl, arith, sym, ap, ◌∙◌, List, [], ◌∷◌, length, take, Option}
use Rattle.std.specs.Prelude.{slice_set, option_map}
use Rattle.ih_tables.specs.declared.drafts.Draft.{Draft}
use Rattle.ih_tables.specs.declared.ids.PatientNo.{PatientNo}
use Rattle.ih_tables.specs.declared.ids.RoomNo.{RoomNo}
use Rattle.ih_tables.specs.declared.ids.Shift.{Shift}
use Rattle.ih_tables.specs.declared.ids.NurseNo.{NurseNo}
use Rattle.ih_tables.specs.Sizes.{patient_count, room_count, shift_count}
use Rattle.ih_plan.specs.declared.moves.Placement.{Placement}
use Rattle.ih_plan.specs.declared.moves.Write.TheVariants.{SetStay, SetCare}
use Rattle.ih_plan.specs.Timetable.{Timetable, IsPlanOf, stay_of, choice_of}
use Rattle.ih_plan.specs.Writes.{put, IsWriteOf}
use Rattle.ih_plan.proofs.PlanRanges.{choice-inside}
use Rattle.ih_costs.proofs.UndoLemmas.{entry}

-- ---- lists

-- one entry more is the same
front-set : {X : Type 0} (n : ℕ) (xs ys : List (Option X)) → n < length xs → n < length ys → take n xs ≡ take n ys → take (n + 1) (slice_set xs n (entry ys n)) ≡ take (n + 1) ys
front-set zero [] ys h k e = absurd (omega arith)
front-set zero (x ∷ xs) [] h k e = absurd (omega arith)
front-set zero (x ∷ xs) (y ∷ ys) h k e = refl
front-set (suc n) [] ys h k e = absurd (omega arith)
front-set (suc n) (x ∷ xs) [] h k e = absurd (omega arith)
front-set (suc n) (x ∷ xs) (y ∷ ys) h k e =
    let next : suc n + 1 ≡ suc (n + 1) = omega arith in
    let lists : x ∷ take n xs ≡ y ∷ take n ys = e in
    let head : x ≡ y = cc in
    let tail : take n xs ≡ take n ys = cc in
    let rest = front-set n xs ys (omega arith) (omega arith) tail in
    rw (next, head) (ap (λ zs. y ∷ zs) rest)

-- ---- stays and choices of nurses

module _ (I : Draft) (P Q : Timetable) (planP : IsPlanOf I P) (planQ : IsPlanOf I Q) where
  pub stay-copied : (p : PatientNo) → p.0 < patient_count I → take p.0 P.stays ≡ take p.0 Q.stays
      → take (p.0 + 1) (put (SetStay p (stay_of Q p.0)) P).stays ≡ take (p.0 + 1) Q.stays
  stay-copied p h e =
      let old = planP.stays in
      let new = planQ.stays in
      front-set p.0 P.stays Q.stays (omega arith) (omega arith) e

  pub care-copied : (r : RoomNo) (k : Shift) → r.0 < room_count I → k.0 < shift_count I → take (shift_count I * r.0 + k.0) P.cares ≡ take (shift_count I * r.0 + k.0) Q.cares
      → take (shift_count I * r.0 + (k.0 + 1)) (put (SetCare r k (choice_of Q r.0 k.0)) P).cares ≡ take (shift_count I * r.0 + (k.0 + 1)) Q.cares
  care-copied r k rh kh e =
      let here = planP.shifts in
      let there = planQ.shifts in
      let more : shift_count I * r.0 + (k.0 + 1) ≡ shift_count I * r.0 + k.0 + 1 = omega arith in
      let inP = choice-inside I P r.0 k.0 planP rh kh in
      let inQ = choice-inside I Q r.0 k.0 planQ rh kh in
      rw (more, here, there) (front-set (shift_count I * r.0 + k.0) P.cares Q.cares (rw here at inP) (rw there at inQ) e)

  pub plan-copied : P.stays ≡ Q.stays → P.cares ≡ Q.cares → P ≡ Q
  plan-copied stays cares =
      let shifts : P.shifts ≡ Q.shifts = planP.shifts ∙ sym planQ.shifts in
      ap (λ (xs : List (Option Placement)). record P { stays = xs }) stays ∙ (ap (λ (ys : List (Option NurseNo)). record P { stays = Q.stays; cares = ys }) cares
      ∙ ap (λ (n : ℕ). record Q { shifts = n }) shifts)

-- ---- the writes are in range

pub care-write : (I : Draft) (Q : Timetable) (r : RoomNo) (k : Shift) → IsPlanOf I Q → r.0 < room_count I → k.0 < shift_count I → IsWriteOf I (SetCare r k (choice_of Q r.0 k.0))
care-write I Q r k plan rh kh = (rh, kh, λ m e. plan.nursed r.0 k.0 m.0 (ap (option_map (λ (m : NurseNo). m.0)) e))
