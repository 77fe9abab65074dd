-- Offers, whatever type keeps them.
use Rattle.std.specs.Prelude.{ℕ, List, Bool}
use Rattle.ih_tables.specs.declared.bills.Bill.{Bill}
use Rattle.ih_plan.specs.declared.moves.Move.{Move}
use Rattle.ih_cellbook.specs.ReadsState.{ReadsState}

-- A worker's next attempt, priced on a copy of what the book had.
pub record Offered : Type 0 where
  pub worker : ℕ
  pub number : ℕ
  pub seen : ℕ
  pub moves : List Move
  pub price : Bill
  pub reads : ReadsState
  pub frozen : Bool

-- the offer of these
abbrev pub offered_by : ℕ → ℕ → ℕ → List Move → Bill → ReadsState → Bool → Offered
offered_by w n s ms p r f = record { worker = w; number = n; seen = s; moves = ms; price = p; reads = r; frozen = f }
