-- The limits of a search's options, and what its heat allows.
use Rattle.std.specs.Prelude.{ℕ, ◌+◌, ◌-◌, ◌*◌, ◌/◌, ◌≤◌, ℤ, pos}
use Rattle.ih_journal.specs.declared.settings.Options.{Options}
use Rattle.ih_plan.specs.declared.limits.TheConstants.{MAX_HARD, MAX_HEAT, MAX_WORKERS}
use Rattle.ih_journal.specs.declared.settings.TheConstants.{MAX_ENTRIES, MAX_MOVES, MAX_RETRIES}

-- the most entries that a journal comes to have: one for each try of each move of each worker
abbrev pub most_entries : Options → ℕ
most_entries o = o.workers * o.moves * (o.retries + 1)

-- each option is within its limits, and so is the length of the journal
pub record IsLawful (o : Options) : Type 0 where
  pub some_worker : 1 ≤ o.workers
  pub workers : o.workers ≤ MAX_WORKERS
  pub moves : o.moves ≤ MAX_MOVES
  pub heat : o.heat ≤ MAX_HEAT
  pub hard : o.hard ≤ MAX_HARD
  pub retries : o.retries ≤ MAX_RETRIES
  pub entries : most_entries o ≤ MAX_ENTRIES

-- the greatest score at which a worker's move i is accepted
abbrev pub theta : Options → ℕ → ℤ
theta o i = pos (o.heat * (o.moves - i) / o.moves)
