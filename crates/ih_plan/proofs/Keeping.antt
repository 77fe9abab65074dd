-- What a write off the choices of a set leaves: the timetable has them as before.
use Rattle.std.proofs.Common.{◌≡◌, ℕ, refl, sym, ap, ◌∙◌, Bool, true, false, List, [], ◌∷◌, Option, Some, None}
use Rattle.std.specs.Prelude.{◌||◌, option_map}
use Rattle.std.specs.List.{list_any}
use Rattle.ih_tables.specs.declared.drafts.Draft.{Draft}
use Rattle.ih_tables.specs.declared.ids.NurseNo.{NurseNo}
use Rattle.ih_plan.specs.declared.moves.Write.{Write}
use Rattle.ih_plan.specs.declared.moves.Write.TheVariants.{SetStay, SetCare}
use Rattle.ih_plan.specs.Kept.{Choices, KeepsChoices, is_write_of_kept}
use Rattle.ih_plan.specs.Timetable.{Timetable, IsPlanOf}
use Rattle.ih_plan.specs.Writes.{put, put_all, IsWriteOf, AreWritesOf}
use Rattle.ih_plan.proofs.Entries.{stay_of-other, care_of-other}
use Rattle.ih_plan.proofs.PlanRanges.{put-plan}

pub neither : (a b : Bool) → (a || b) ≡ false → (a ≡ false) × (b ≡ false)
neither true b h = absurd (let no : true ≡ false = h in cc)
neither false b h = (refl, h)

clash : (a : Bool) → a ≡ true → a ≡ false → ⊥
clash a t f = let no : true ≡ false = sym t ∙ f in cc

-- a nurse is known by the number
same-choice : (a b : Option NurseNo) → option_map (λ (n : NurseNo). n.0) a ≡ option_map (λ (n : NurseNo). n.0) b → a ≡ b
same-choice None None h = refl
same-choice None (Some m) h = absurd (let no : None ≡ Some m.0 = h in cc)
same-choice (Some n) None h = absurd (let no : Some n.0 ≡ None = h in cc)
same-choice (Some n) (Some m) h = ap (option_map (λ i. record { 0 = i })) h

pub start-keeps : (I : Draft) (S : Timetable) (kept : Choices) → KeepsChoices I S kept S
start-keeps I S kept = record { stays = λ p on. refl; nurses = λ r k rh kh on. refl }

module _ (I : Draft) (S : Timetable) (kept : Choices) where
  pub keeps-put : (P : Timetable) (w : Write) → IsPlanOf I P → IsWriteOf I w → KeepsChoices I S kept P → is_write_of_kept kept w ≡ false
      → KeepsChoices I S kept (put w P)
  keeps-put P (SetStay p s) plan fits agrees free = record {
    stays = λ x on. stay_of-other P p s x (λ e. clash (kept.stays x) on (ap kept.stays e ∙ free)) ∙ agrees.stays x on;
    nurses = agrees.nurses;
  }
  keeps-put P (SetCare r k n) plan fits agrees free = record {
    stays = agrees.stays;
    nurses = λ s l sh lh on. same-choice _ _ (care_of-other I P r k n s l plan fits.1 lh
        (λ es el. clash (kept.nurses s l) on (ap (λ y. kept.nurses y l) es ∙ (ap (kept.nurses r.0) el ∙ free))))
        ∙ agrees.nurses s l sh lh on;
  }

  pub keeps-put_all : (P : Timetable) (ws : List Write) → IsPlanOf I P → AreWritesOf I ws → KeepsChoices I S kept P
      → list_any (is_write_of_kept kept) ws ≡ false → KeepsChoices I S kept (put_all ws P)
  keeps-put_all P [] plan fits agrees free = agrees
  keeps-put_all P (w ∷ ws) plan fits agrees free =
      let parts = neither (is_write_of_kept kept w) (list_any (is_write_of_kept kept) ws) free in
      keeps-put_all (put w P) ws (put-plan I P w plan fits.0) fits.1 (keeps-put P w plan fits.0 agrees parts.0) parts.1
