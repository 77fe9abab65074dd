-- Entries of a history, whatever type keeps them: what is tried is a list of moves, which are made in a row.
use Rattle.std.specs.Prelude.{ℕ, List, [], ◌∷◌, map}
use Rattle.ih_tables.specs.declared.bills.Bill.{Bill}
use Rattle.ih_plan.specs.declared.moves.Move.{Move}
use Rattle.ih_journal.specs.declared.entries.Entry.{Entry}
use Rattle.ih_journal.specs.declared.entries.Verdict.{Verdict}

-- One try of one worker, and what became of it.
pub record Tried : Type 0 where
  pub worker : ℕ
  -- the number of the attempt among the worker's
  pub number : ℕ
  -- how often it was tried before
  pub again : ℕ
  pub seen : ℕ
  pub moves : List Move
  pub price : Bill
  pub verdict : Verdict

-- the try of these
abbrev pub tried_by : ℕ → ℕ → ℕ → ℕ → List Move → Bill → Verdict → Tried
tried_by w n a s ms p v = record { worker = w; number = n; again = a; seen = s; moves = ms; price = p; verdict = v }

-- what an entry of one move stands for
abbrev pub tried : Entry → Tried
tried e = tried_by e.worker e.number e.again e.seen (e.mv ∷ []) e.price e.verdict

-- what entries of one move each stand for
abbrev pub tries : List Entry → List Tried
tries es = map tried es
