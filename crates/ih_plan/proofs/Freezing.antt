-- What a write off the frozen choices leaves: the timetable agrees with the start on them as before.
use Rattle.std.proofs.Common.{◌≡◌, ℕ, ap, ◌∙◌, arith, inl, inr, true, false, List, [], ◌∷◌, Option}
use Rattle.std.specs.Prelude.{◌⊎◌, ◌≢◌, ◌==◌}
use Rattle.std.specs.List.{list_any}
use Rattle.std.proofs.lemmas.Bool.Decides.{eqb_tells}
use Rattle.ih_tables.specs.declared.drafts.Draft.{Draft}
use Rattle.ih_tables.specs.declared.ids.PatientNo.{PatientNo}
use Rattle.ih_plan.specs.declared.moves.Placement.{Placement}
use Rattle.ih_plan.specs.declared.moves.Write.{Write}
use Rattle.ih_plan.specs.declared.moves.Write.TheVariants.{SetStay, SetCare}
use Rattle.ih_plan.specs.Timetable.{Timetable, IsPlanOf, stay_of}
use Rattle.ih_plan.specs.Frozen.{KeepsFrozen, frozen_choices, is_before, is_frozen_write}
use Rattle.ih_plan.specs.Writes.{put, put_all, IsWriteOf, AreWritesOf}
use Rattle.ih_plan.proofs.Entries.{stay_of-other, stay_of-same}
use Rattle.ih_plan.proofs.Keeping.{keeps-put, neither, start-keeps}
use Rattle.ih_plan.proofs.PlanRanges.{put-plan}

pub start-agrees : (I : Draft) (S : Timetable) (freeze : ℕ) → KeepsFrozen I S freeze S
start-agrees I S freeze = record { kept = start-keeps I S (frozen_choices S freeze); others = λ p h. h }

module _ (I : Draft) (S : Timetable) (freeze : ℕ) (P : Timetable) (plan : IsPlanOf I P) (agrees : KeepsFrozen I S freeze P) where
  -- a stay that isn't frozen is written
  agrees-stay : (p : PatientNo) (s : Option Placement) → IsWriteOf I (SetStay p s) → is_before freeze (stay_of S p.0) ≡ false
      → is_before freeze s ≡ false → KeepsFrozen I S freeze (put (SetStay p s) P)
  agrees-stay p s fits free new =
      let sizes = plan.stays in
      let here : stay_of (put (SetStay p s) P) p.0 ≡ s = stay_of-same P p s (omega (arith, fits.0)) in
      record {
        kept = keeps-put I S (frozen_choices S freeze) P (SetStay p s) plan fits agrees.kept free;
        others = λ x h. by_place x h here (eqb_tells x p.0);
      }
    where
      by_place : (x : ℕ) → is_before freeze (stay_of S x) ≡ false → stay_of (put (SetStay p s) P) p.0 ≡ s
          → (((x == p.0) ≡ true) × (x ≡ p.0)) ⊎ (((x == p.0) ≡ false) × (x ≢ p.0)) → is_before freeze (stay_of (put (SetStay p s) P) x) ≡ false
      by_place x h here (inl (test, e)) = ap (λ y. is_before freeze (stay_of (put (SetStay p s) P) y)) e ∙ ap (is_before freeze) here ∙ new
      by_place x h here (inr (test, ne)) = ap (is_before freeze) (stay_of-other P p s x ne) ∙ agrees.others x h

pub agrees-put : (I : Draft) (S : Timetable) (freeze : ℕ) (P : Timetable) (w : Write) → IsPlanOf I P → IsWriteOf I w → KeepsFrozen I S freeze P → is_frozen_write S freeze w ≡ false → KeepsFrozen I S freeze (put w P)
agrees-put I S freeze P (SetStay p s) plan fits agrees free =
    let parts = neither (is_before freeze (stay_of S p.0)) (is_before freeze s) free in
    agrees-stay I S freeze P plan agrees p s fits parts.0 parts.1
agrees-put I S freeze P (SetCare r k n) plan fits agrees free = record {
  kept = keeps-put I S (frozen_choices S freeze) P (SetCare r k n) plan fits agrees.kept free;
  others = agrees.others;
}

pub agrees-put_all : (I : Draft) (S : Timetable) (freeze : ℕ) (P : Timetable) (ws : List Write) → IsPlanOf I P → AreWritesOf I ws → KeepsFrozen I S freeze P
    → list_any (is_frozen_write S freeze) ws ≡ false → KeepsFrozen I S freeze (put_all ws P)
agrees-put_all I S freeze P [] plan fits agrees free = agrees
agrees-put_all I S freeze P (w ∷ ws) plan fits agrees free =
    let parts = neither (is_frozen_write S freeze w) (list_any (is_frozen_write S freeze) ws) free in
    agrees-put_all I S freeze (put w P) ws (put-plan I P w plan fits.0) fits.1 (agrees-put I S freeze P w plan fits.0 agrees parts.0) parts.1
