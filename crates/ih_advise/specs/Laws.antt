-- Laws of advice.
use Rattle.std.specs.Prelude.{◌≡◌, ◌↔◌, ℕ, pos, ◌≤ℤ◌, ◌<ℤ◌, List, [], Some, codes, slice_get}
use Rattle.ih_tables.specs.declared.drafts.Draft.{Draft}
use Rattle.ih_plan.specs.declared.moves.Write.{Write}
use Rattle.ih_plan.specs.Timetable.{Timetable}
use Rattle.ih_plan.specs.Writes.{put}
use Rattle.ih_plan.specs.BillOf.{change_of_bill}
use Rattle.ih_fill.specs.declared.choices.Choice.{Choice}
use Rattle.ih_fill.specs.Choices.{all_choices}
use Rattle.ih_fill.specs.FirstLeast.{IsFirstLeastOf}
use Rattle.ih_replacements.specs.Replacements.{replacements, value_of}
use Rattle.ih_advise.specs.declared.choosing.Advice.{Advice}
use Rattle.ih_advise.specs.Advising.{advice}
use Rattle.ih_advise.specs.Texts.{advice_text}

-- w may replace the choice c
abbrev pub IsReplacement : Draft → Choice → Write → Type 0
IsReplacement I c w = (k : ℕ) × (slice_get (replacements I c) k ≡ Some w)

-- c is one of the choices
abbrev pub IsChoice : Draft → Choice → Type 0
IsChoice I c = (k : ℕ) × (slice_get (all_choices I) k ≡ Some c)

-- It is the first least of the writes that may replace the choice, and lowers the score by so much, with what it
-- changes in the bill.
pub record IsBestChange (I : Draft) (hard : ℕ) (P : Timetable) (c : Choice) (a : Advice) : Type 0 where
  pub first : IsFirstLeastOf (value_of I hard P) (replacements I c) a.write
  pub score : a.score ≡ value_of I hard P a.write
  pub lowers : a.score <ℤ pos 0
  pub price : a.price ≡ change_of_bill I P (put a.write P)

-- each line of advice is the best change of one of the choices
abbrev pub AdviceIsBest : Type 0
AdviceIsBest = (I : Draft) (hard : ℕ) (P : Timetable) (k : ℕ) (a : Advice) → slice_get (advice I hard P) k ≡ Some a
    → (c : Choice) × IsChoice I c × IsBestChange I hard P c a

-- nothing is advised exactly where no write that may replace a choice lowers the score
pub record LocallyBest : Type 0 where
  pub only : (I : Draft) (hard : ℕ) (P : Timetable) → advice I hard P ≡ []
      → (c : Choice) (w : Write) → IsChoice I c → IsReplacement I c w
      → pos 0 ≤ℤ value_of I hard P w
  pub always : (I : Draft) (hard : ℕ) (P : Timetable)
      → ((c : Choice) (w : Write) → IsChoice I c → IsReplacement I c w → pos 0 ≤ℤ value_of I hard P w)
      → advice I hard P ≡ []

-- the text says that a timetable is locally best exactly where nothing is advised
abbrev pub LocallyBestIsSaid : Type 0
LocallyBestIsSaid = (list : List Advice) → (advice_text list ≡ codes "locally best\n") ↔ (list ≡ [])
