-- Which theatre adds least.
use Rattle.std.specs.Prelude.{ℕ, ℤ, Some}
use Rattle.ih_tables.specs.declared.ids.PatientNo.{PatientNo}
use Rattle.ih_plan.specs.declared.moves.Write.TheVariants.{SetStay}
use Rattle.ih_fill.specs.ScorerState.{ScorerState, stay_value}
use Rattle.ih_fill.specs.Candidates.{placed, stays_in}
use Rattle.ih_fill.specs.FirstLeast.{AnyPlace, IsFirstLeast}

-- what patient p's stay from day d on in room r adds to the score, with surgery in theatre t
abbrev pub theatre_value : ScorerState → PatientNo → ℕ → ℕ → ℕ → ℤ
theatre_value F p d r t = stay_value F (SetStay p (Some (placed d r t)))

-- of the first n theatres, t is the first in which that stay adds least
abbrev pub IsFirstTheatre : ScorerState → PatientNo → ℕ → ℕ → ℕ → ℕ → Type 0
IsFirstTheatre F p d r n t =
    IsFirstLeast (stay_value F) (stays_in p d r n) AnyPlace t (SetStay p (Some (placed d r t)))
