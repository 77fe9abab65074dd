-- When a worker has finished, and when a history is full.
use Rattle.std.specs.Prelude.{◌≡◌, ℕ, ◌<◌, List, Some, slice_get, true}
use Rattle.ih_journal.specs.Tried.{Tried}
use Rattle.ih_journal.specs.Attempts.{is_done}
use Rattle.ih_journal.specs.Base.{Base}
use Rattle.ih_journal.specs.Legal.{IsFull, attempt_of}
use Rattle.ih_cellbook.specs.Legal.{AreLegalButDraws}
use Rattle.ih_turn.specs.Rule.{GoesOn}

-- each entry of worker w has the draws of its number, so many of them
abbrev pub AreDrawn : Base → ℕ → ℕ → List Tried → Type 0
AreDrawn b each w H = (k : ℕ) (e : Tried) → slice_get H k ≡ Some e → e.worker ≡ w
    → e.moves ≡ attempt_of b each e.worker e.number

-- In H, which is legal but for its draws, worker w has made its attempts of so many draws, all of them, in order, each
-- with its tries.
pub record HasFinished (b : Base) (each w : ℕ) (H : List Tried) : Type 0 where
  pub legal : AreLegalButDraws b H
  pub drawn : AreDrawn b each w H
  pub done : is_done b.options H w ≡ true

abbrev pub FinishedSearchesAreFull : Type 0
FinishedSearchesAreFull = (b : Base) (each : ℕ) (H : List Tried) → AreLegalButDraws b H
    → ((w : ℕ) → w < b.options.workers → (seen : List Tried) × GoesOn (λ e. e.worker) w seen H
    × HasFinished b each w seen)
    → IsFull b each H
