-- What one round comes to.
use Rattle.std.specs.Prelude.{◌≡◌, ℕ, ℤ, List, [], ◌∷◌, ◌++◌, length, Option, Some, None}
use Rattle.ih_plan.specs.Timetable.{IsPlanOf}
use Rattle.ih_journal.specs.declared.entries.Entry.{Entry}
use Rattle.ih_journal.specs.Tried.{tries}
use Rattle.ih_journal.specs.Base.{Base}
use Rattle.ih_journal.specs.Best.{BestIs}
use Rattle.ih_journal.specs.Legal.{IsFull}
use Rattle.ih_journal.specs.Settings.{IsLawful}
use Rattle.ih_journal.specs.Texts.{journal}
use Rattle.ih_rounds.specs.declared.round.RoundOutcome.{RoundOutcome}
use Rattle.ih_rounds.specs.Rounds.{next_start}
use Rattle.ih_rounds.specs.Answers.{Answers, with_answers}

-- the place of the best, or the last
abbrev pub end_of : Option (ℕ × ℤ) → ℕ → ℕ
end_of None count = count
end_of (Some best) count = best.0

-- a search over b, whose options are lawful, was answered by this
pub record IsAnswer (b : Base) (history : List Entry) : Type 0 where
  pub lawful : IsLawful b.options
  pub full : IsFull b 1 (tries history)

-- A round over b with this history comes to this: its best, how many entries it has, and where the next one starts.
pub record LeadsOn (b : Base) (history : List Entry) (outcome : RoundOutcome) : Type 0 where
  pub best : BestIs b (tries history) outcome.found
  pub count : outcome.count ≡ length history
  pub next : outcome.next ≡ next_start b (tries history) outcome.found
  pub fits : IsPlanOf b.instance outcome.next

-- A search over b was answered by a full history, whose journal was appended.
pub record HasRound (b : Base) (before after : Answers) (old new : List ℕ) (outcome : RoundOutcome) : Type 0 where
  pub history : List Entry
  pub full : IsFull b 1 (tries history)
  pub told : after ≡ with_answers before (history ∷ [])
  pub written : new ≡ old ++ journal b.options history
  pub leads : LeadsOn b history outcome
