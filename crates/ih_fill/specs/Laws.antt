-- Laws of the fill.
use Rattle.std.specs.Prelude.{◌≡◌, ℕ, true, false, List, [], ◌∷◌}
use Rattle.ih_tables.specs.declared.drafts.Draft.{Draft}
use Rattle.ih_plan.specs.declared.moves.Write.{Write}
use Rattle.ih_plan.specs.Timetable.{Timetable}
use Rattle.ih_plan.specs.Writes.{put}
use Rattle.ih_fill.specs.declared.choices.Choice.{Choice}
use Rattle.ih_fill.specs.Choices.{candidates}
use Rattle.ih_fill.specs.Fill.{is_open, view_in, with_choice, write_score}
use Rattle.ih_fill.specs.FirstLeast.{IsFirstLeastOf}

-- A fill makes a choice by the first least of its candidates, where the choice is open and has any. Where it isn't
-- open, or has none, the timetable stays.
pub record ChoicesAreFirstLeast : Type 0 where
  pub made : (I : Draft) (hard : ℕ) (P : Timetable) (c : Choice) (w : Write) → is_open I P c ≡ true
      → IsFirstLeastOf (write_score I hard (view_in c) P) (candidates I c) w
      → with_choice I hard P c ≡ put w P
  pub some : (I : Draft) (hard : ℕ) (P : Timetable) (c : Choice) (x : Write) (xs : List Write)
      → candidates I c ≡ x ∷ xs
      → (w : Write) × IsFirstLeastOf (write_score I hard (view_in c) P) (candidates I c) w
  pub none : (I : Draft) (hard : ℕ) (P : Timetable) (c : Choice) → candidates I c ≡ [] → with_choice I hard P c ≡ P
  pub closed : (I : Draft) (hard : ℕ) (P : Timetable) (c : Choice) → is_open I P c ≡ false
      → with_choice I hard P c ≡ P
