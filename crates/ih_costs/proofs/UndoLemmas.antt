-- A write is taken back by the write of what stood there.
use Rattle.std.proofs.Common.{◌≡◌, ℕ, zero, suc, refl, sym, ap, subst, ◌∙◌, List, [], ◌∷◌, Option, None}
use Rattle.std.specs.Prelude.{slice_get, slice_set, option_and_then, option_map}
use Rattle.ih_tables.specs.declared.drafts.Draft.{Draft}
use Rattle.ih_tables.specs.declared.ids.PatientNo.{PatientNo}
use Rattle.ih_tables.specs.declared.ids.NurseNo.{NurseNo}
use Rattle.ih_tables.specs.declared.ids.RoomNo.{RoomNo}
use Rattle.ih_tables.specs.declared.ids.Shift.{Shift}
use Rattle.ih_plan.specs.declared.moves.Placement.{Placement}
use Rattle.ih_plan.specs.declared.moves.Write.{Write}
use Rattle.ih_plan.specs.declared.moves.Write.TheVariants.{SetStay, SetCare}
use Rattle.ih_plan.specs.Timetable.{Timetable, IsPlanOf, stay_of, choice_of, care_place}
use Rattle.ih_plan.specs.Writes.{put, IsWriteOf}
use Rattle.ih_costs.specs.declared.cell_ledgers.CellLedgers.{CellLedgers}
use Rattle.ih_costs.specs.CellLedgers.{AreLedgersOf, timetable_of}
use Rattle.ih_costs.specs.Undo.{undo_of}
use Rattle.ih_costs.proofs.StandLemmas.{kept}

-- ---- entries of lists

-- the entry at a place, and none past the end
abbrev pub entry : {X : Type 0} → List (Option X) → ℕ → Option X
entry {X} xs i = option_and_then (λ (o : Option X). o) (slice_get xs i)

set-own : {X : Type 0} (xs : List (Option X)) (i : ℕ) → slice_set xs i (entry xs i) ≡ xs
set-own [] i = refl
set-own (x ∷ xs) zero = refl
set-own (x ∷ xs) (suc i) = ap (λ ys. x ∷ ys) (set-own xs i)

set-twice : {X : Type 0} (xs : List X) (i : ℕ) (a b : X) → slice_set (slice_set xs i a) i b ≡ slice_set xs i b
set-twice [] i a b = refl
set-twice (x ∷ xs) zero a b = refl
set-twice (x ∷ xs) (suc i) a b = ap (λ ys. x ∷ ys) (set-twice xs i a b)

-- ---- writes

-- the later of two stays stands
pub stay-twice : (P : Timetable) (p : PatientNo) (a b : Option Placement) → put (SetStay p b) (put (SetStay p a) P) ≡ put (SetStay p b) P
stay-twice P p a b = ap (λ (xs : List (Option Placement)). record P { stays = xs }) (set-twice P.stays p.0 a b)

-- who isn't admitted is taken out
pub stay-none : (P : Timetable) (p : PatientNo) → stay_of P p.0 ≡ None → P ≡ put (SetStay p None) P
stay-none P p e = ap (λ (xs : List (Option Placement)). record P { stays = xs }) (sym (ap (slice_set P.stays p.0) (sym e) ∙ set-own P.stays p.0))

-- the choice that stands there is written again
pub choice-again : (P : Timetable) (r : RoomNo) (k : Shift) → put (SetCare r k (choice_of P r.0 k.0)) P ≡ P
choice-again P r k = ap (λ (xs : List (Option NurseNo)). record P { cares = xs }) (set-own P.cares (care_place P r.0 k.0))

pub undone : (P : Timetable) (w : Write) → put (undo_of P w) (put w P) ≡ P
undone P (SetStay p s) = ap (λ (xs : List (Option Placement)). record P { stays = xs }) (set-twice P.stays p.0 s (stay_of P p.0) ∙ set-own P.stays p.0)
undone P (SetCare r k n) =
    ap (λ (xs : List (Option NurseNo)). record P { cares = xs })
    (set-twice P.cares (care_place P r.0 k.0) n (choice_of P r.0 k.0) ∙ set-own P.cares (care_place P r.0 k.0))

pub undo-write : (I : Draft) (P : Timetable) (w : Write) → IsPlanOf I P → IsWriteOf I w → IsWriteOf I (undo_of P w)
undo-write I P (SetStay p s) plan fits = (fits.0, plan.placed p.0)
undo-write I P (SetCare r k n) plan fits = (fits.0, fits.1, λ m e. plan.nursed r.0 k.0 m.0 (ap (option_map (λ (m : NurseNo). m.0)) e))

-- Ledgers in which a write is made, which keep their timetable, and in which it is then taken back, stand for the
-- timetable before.
pub taken-back : {I : Draft} {P : Timetable} (w : Write) {u : Write} {made behind back : CellLedgers} → AreLedgersOf I (put w P) made → AreLedgersOf I (timetable_of made) behind
    → u ≡ undo_of P w → AreLedgersOf I (put u (timetable_of behind)) back → AreLedgersOf I P back
taken-back {I} {P} w {u} {made} {behind} {back} stands keeps undo stands_back =
    let same : timetable_of behind ≡ put w P = kept I (timetable_of made) behind keeps ∙ kept I (put w P) made stands in
    subst (λ Q. AreLedgersOf I Q back) (ap (put u) same ∙ (ap (λ v. put v (put w P)) undo ∙ undone P w)) stands_back
