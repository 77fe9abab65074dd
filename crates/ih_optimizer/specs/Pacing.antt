-- How long a search goes on, and what each of its rounds is to do.
use Rattle.std.specs.Prelude.{◌≡◌, ℕ, ◌+◌, ◌-◌, ◌*◌, ◌/◌, ◌≤◌, ◌<◌, Bool, false, if◌then◌else◌}
use Rattle.ih_optimizer.specs.Below.Searches.{ImproverState, MAX_ROUNDS, Span}
use Rattle.ih_optimizer.specs.declared.pacing.Length.{Length}
use Rattle.ih_optimizer.specs.declared.pacing.Length.TheVariants.{Attempts, Seconds}
use Rattle.ih_optimizer.specs.declared.pacing.Pace.{Pace}
use Rattle.ih_optimizer.specs.declared.pacing.TheConstants.{MAX_CALL_ATTEMPTS, MAX_CALL_ROUNDS}

-- the attempts of each worker, where they are given
abbrev pub attempts_of : Length → ℕ
attempts_of (Attempts n) = n
attempts_of (Seconds s) = 0

-- there is a round, and there are not too many, nor too many attempts
pub record IsLawfulPace (p : Pace) : Type 0 where
  pub some : 1 ≤ p.rounds
  pub rounds : p.rounds ≤ MAX_CALL_ROUNDS
  pub attempts : attempts_of p.length ≤ MAX_CALL_ATTEMPTS

-- ---- how many rounds there are

-- at least so many: by the clock one
abbrev pub least_rounds : Length → ℕ → ℕ
least_rounds (Attempts n) rounds = rounds
least_rounds (Seconds s) rounds = 1

-- at most so many
abbrev pub most_rounds : Length → ℕ → ℕ
most_rounds (Attempts n) rounds = rounds
most_rounds (Seconds s) rounds = MAX_ROUNDS

-- How many rounds are left at most, once so many are made: by the clock any number, until that says that time is over.
abbrev pub rounds_left : Length → ℕ → Bool → ℕ → ℕ
rounds_left (Attempts n) rounds is_over made = rounds - made
rounds_left (Seconds s) rounds is_over made = if is_over then 0 else (MAX_ROUNDS - made)

-- ---- what each is to do

-- how many attempts a worker has made once so many rounds are over: as even a share as whole numbers allow
abbrev pub attempts_through : ℕ → ℕ → ℕ → ℕ
attempts_through attempts rounds over = attempts * over / rounds

-- the next of so many rounds of so many attempts: each worker makes those up to the share of one round more, and the
-- temperature falls by them
abbrev pub share_of : ℕ → ℕ → ImproverState → Span
share_of attempts rounds v = record {
  attempts = attempts_through attempts rounds (v.rounds + 1) - v.attempts;
  from = v.attempts;
  to = attempts_through attempts rounds (v.rounds + 1);
  whole = attempts;
  is_cold = false;
}

-- The next round may have this span. Where attempts are given, it is their next share; by the clock it is whatever that
-- leads to.
abbrev pub IsNextSpan : Length → ℕ → ImproverState → Span → Type 0
IsNextSpan (Attempts n) rounds v s = (v.rounds < rounds) × (s ≡ share_of n rounds v)
IsNextSpan (Seconds s) rounds v t = Unit {0}
