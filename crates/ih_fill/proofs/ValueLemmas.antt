-- What candidates add to the score.
use Rattle.std.proofs.Common.{◌≡◌, ℕ, zero, suc, refl, ◌∙◌, ap, arith, Bool, true, List, [], ◌∷◌, ◌++◌, length, take}
use Rattle.std.specs.Prelude.{ℤ, slice_set}
use Rattle.ih_tables.specs.declared.bills.Bill.{Bill}
use Rattle.ih_tables.specs.declared.drafts.Draft.{Draft}
use Rattle.ih_tables.specs.Bills.{score}
use Rattle.ih_plan.specs.declared.moves.Write.{Write}
use Rattle.ih_plan.specs.Writes.{put}
use Rattle.ih_plan.specs.BillOf.{change_of_bill}
use Rattle.ih_fill.specs.Fill.{write_score}
use Rattle.ih_costs.specs.LedgersState.{LedgersState}
use Rattle.ih_fill.specs.Candidates.{valued}
use Rattle.ih_fill.specs.ScorerState.{ScorerState, stay_value, care_value, view_of}

-- what a price says of a timetable, in the terms of its ledgers
pub score-is : (F : ScorerState) (I : Draft) (L : LedgersState) (hard : ℕ) (counts view : Bool) (w : Write) (price : Bill)
    → record { instance = I; hard = hard; counts_uncovered = counts; plan = L.plan } ≡ F → L.instance ≡ I → price ≡ change_of_bill L.instance L.plan (put w L.plan)
    → score hard I.weights (view_of view price) ≡ write_score F.instance F.hard (view_of view) F.plan w
score-is F I L hard counts view w price same of_instance e =
    ap (λ b. score hard I.weights (view_of view b)) (e ∙ ap (λ J. change_of_bill J L.plan (put w L.plan)) of_instance)
    ∙ ap (λ (G : ScorerState). write_score G.instance G.hard (view_of view) G.plan w) same

-- the value of a stay, and that of a nurse
pub stay-is : (F : ScorerState) (w : Write) → valued (write_score F.instance F.hard (view_of F.counts_uncovered) F.plan) w ≡ valued (stay_value F) w
unfolding stay_value
stay-is F w = refl

pub care-is : (F : ScorerState) (w : Write) → valued (write_score F.instance F.hard (view_of true) F.plan) w ≡ valued (care_value F) w
unfolding care_value
care-is F w = refl

-- the last number of a list replaced
pub set-last : (xs : List ℤ) (n : ℕ) (x : ℤ) → length xs ≡ suc n → slice_set xs n x ≡ take n xs ++ x ∷ []
set-last [] n x e = absurd (omega arith)
set-last (y ∷ []) zero x e = refl
set-last (y ∷ z ∷ ys) zero x e = absurd (omega arith)
set-last (y ∷ ys) (suc n) x e = ap (λ (zs : List ℤ). y ∷ zs) (set-last ys n x (omega arith))
