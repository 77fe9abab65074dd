-- What another stay of one patient makes of the nurses' loads.
use Rattle.std.proofs.Common.{◌≡◌, ℕ, zero, suc, ◌+◌, ◌<◌, ◌≤◌, refl, arith, sym, ap, ◌∙◌, List, [], ◌∷◌, Option, Some, None}
use Rattle.std.specs.Prelude.{slice_get, slice_set, option_and_then}
use Rattle.std.proofs.lemmas.List.{set-set}
use Rattle.ih_tables.specs.declared.drafts.Draft.{Draft}
use Rattle.ih_tables.specs.declared.ids.PatientNo.{PatientNo}
use Rattle.ih_tables.specs.Sizes.{patient_count}
use Rattle.ih_plan.specs.declared.moves.Placement.{Placement}
use Rattle.ih_plan.specs.declared.moves.Write.TheVariants.{SetStay}
use Rattle.ih_plan.specs.Timetable.{Timetable, IsPlanOf, IsPlacement, stay_of}
use Rattle.ih_plan.specs.Writes.{put}
use Rattle.ih_plan.specs.Costs.{load_of}
use Rattle.ih_plan.proofs.Entries.{stay_of-same}
use Rattle.ih_plan.proofs.PlanRanges.{put-plan}
use Rattle.ih_nurses.specs.Loads.{load_of_stay}
use Rattle.ih_nurses.proofs.AdmitLemmas.{load-more}
use Rattle.ih_nurses.proofs.LedgerLemmas.{leaves}

-- nothing is taken from an entry that has nothing
set-none : {A : Type 0} (xs : List (Option A)) (i : ℕ) → option_and_then (λ (o : Option A). o) (slice_get xs i) ≡ None → slice_set xs i None ≡ xs
set-none [] i e = refl
set-none (x ∷ xs) zero e = ap (λ o. o ∷ xs) (sym e)
set-none (x ∷ xs) (suc i) e = ap (λ os. x ∷ os) (set-none xs i e)

module _ (I : Draft) (P : Timetable) (p : PatientNo) where
  -- a load is what the others give, and what the stay gives
  load-parts : IsPlanOf I P → p.0 < patient_count I → (n k : ℕ) → load_of I P n k ≡ load_of I (put (SetStay p None) P) n k + load_of_stay I P p.0 (stay_of P p.0) n k
  load-parts plan patient n k = by_case (stay_of P p.0) refl
    where
      by_case : (o : Option Placement) → stay_of P p.0 ≡ o → load_of I P n k ≡ load_of I (put (SetStay p None) P) n k + load_of_stay I P p.0 o n k
      by_case None e =
          let unchanged : put (SetStay p None) P ≡ P = ap (λ s. record P { stays = s }) (set-none P.stays p.0 e) in
          let loads = ap (λ S. load_of I S n k) unchanged in
          omega (arith, loads)
      by_case (Some at) e = load-more (leaves I P p at plan patient (plan.placed p.0 at e) e) n k

given-kept : (I : Draft) (P : Timetable) (p : PatientNo) (s : Option Placement) (o : Option Placement) (n k : ℕ) → load_of_stay I (put (SetStay p s) P) p.0 o n k ≡ load_of_stay I P p.0 o n k
given-kept I P p s None n k = refl
given-kept I P p s (Some at) n k = refl

-- the load goes by what the old stay gives and what the new one gives
pub load-goes : (I : Draft) (P : Timetable) (p : PatientNo) (s : Option Placement) → IsPlanOf I P → p.0 < patient_count I → ((at : Placement) → s ≡ Some at → IsPlacement I at)
    → (n k : ℕ) → load_of I (put (SetStay p s) P) n k + load_of_stay I P p.0 (stay_of P p.0) n k ≡ load_of I P n k + load_of_stay I P p.0 s n k
load-goes I P p s plan patient placed n k =
    let sizes = plan.stays in
    let before = load-parts I P p plan patient n k in
    let after = load-parts I (put (SetStay p s) P) p (put-plan I P (SetStay p s) plan (patient, placed)) patient n k in
    let twice : put (SetStay p None) (put (SetStay p s) P) ≡ put (SetStay p None) P = ap (λ l. record P { stays = l }) (set-set P.stays p.0 s None) in
    let loads = ap (λ S. load_of I S n k) twice in
    let now : load_of_stay I (put (SetStay p s) P) p.0 (stay_of (put (SetStay p s) P) p.0) n k ≡ load_of_stay I P p.0 s n k =
    ap (λ o. load_of_stay I (put (SetStay p s) P) p.0 o n k) (stay_of-same P p s (omega arith)) ∙ given-kept I P p s s n k in
    omega (arith, before, after, loads, now)

-- the old stay is in the load
pub load-has : (I : Draft) (P : Timetable) (p : PatientNo) → IsPlanOf I P → p.0 < patient_count I → (n k : ℕ) → load_of_stay I P p.0 (stay_of P p.0) n k ≤ load_of I P n k
load-has I P p plan patient n k = omega (arith, load-parts I P p plan patient n k)
