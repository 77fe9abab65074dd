-- One of the moves in a row that are all in range.
use Rattle.std.proofs.Common.{◌<◌, ℕ, zero, suc, List, [], ◌∷◌, length, get_or, arith}
use Rattle.ih_tables.specs.declared.drafts.Draft.{Draft}
use Rattle.ih_plan.specs.Expand.{IsMoveOf}
use Rattle.ih_plan.specs.Series.{AreMoves}
use Rattle.ih_plan.specs.declared.moves.Move.{Move}

pub move-at : (I : Draft) (ms : List Move) (i : ℕ) (d : Move) → AreMoves I ms → i < length ms → IsMoveOf I (get_or ms i d)
move-at I [] i d all inside = absurd (omega arith)
move-at I (m ∷ ms) zero d all inside = all.0
move-at I (m ∷ ms) (suc i) d all inside = move-at I ms i d all.1 (omega arith)
