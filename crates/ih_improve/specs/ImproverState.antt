-- A search, and what holds of it between rounds.
use Rattle.std.specs.Prelude.{◌≡◌, ℕ, ◌+◌, ◌<◌, ◌≤◌, List, length, Some, slice_get}
use Rattle.ih_tables.specs.declared.drafts.Draft.{Draft}
use Rattle.ih_plan.specs.Timetable.{Timetable, IsPlanOf}
use Rattle.ih_improve.specs.declared.settings.Settings.{Settings}
use Rattle.ih_improve.specs.declared.settings.TheConstants.{MAX_ATTEMPTS, MAX_ROUNDS}
use Rattle.ih_improve.specs.declared.spans.Span.{Span}
use Rattle.ih_improve.specs.Better.{best_of}
use Rattle.ih_improve.specs.Following.{MayFollow}
use Rattle.ih_improve.specs.Legs.{LegState}
use Rattle.ih_improve.specs.Pinned.{PinsState}
use Rattle.ih_improve.specs.Settings.{IsLawful}
use Rattle.ih_improve.specs.Terms.{Terms}

-- A search over a start, some of whose choices are pinned; how many rounds are over, how many attempts each worker made in
-- them, and the best timetable so far.
pub record ImproverState : Type 0 where
  pub instance : Draft
  pub start : Timetable
  pub pins : PinsState
  pub settings : Settings
  pub rounds : ℕ
  pub attempts : ℕ
  pub kept : Timetable

-- what it goes by
abbrev pub terms_of : ImproverState → Terms
terms_of v = record { instance = v.instance; start = v.start; pins = v.pins; settings = v.settings }

-- Between rounds: the best so far fits the instance, keeps the start's choices that are before the freeze day or pinned,
-- and is no worse than the start.
pub record IsSound (v : ImproverState) : Type 0 where
  pub lawful : IsLawful v.settings
  pub rounds : v.rounds ≤ MAX_ROUNDS
  pub attempts : v.attempts ≤ MAX_ATTEMPTS
  pub start : IsPlanOf v.instance v.start
  pub kept : MayFollow (terms_of v) v.start v.kept

-- a round more with this span is within the limits
pub record MayGoOn (v : ImproverState) (s : Span) : Type 0 where
  pub rounds : v.rounds < MAX_ROUNDS
  pub attempts : v.attempts + s.attempts ≤ MAX_ATTEMPTS

-- what the workers go by in the next round, if that has this span
abbrev pub leg_of : ImproverState → Span → LegState
leg_of v s = record {
  instance = v.instance;
  start = v.start;
  pins = v.pins;
  settings = v.settings;
  round = v.rounds;
  span = s;
  from = v.kept;
}

-- one round more, which had this span and led to P
abbrev pub led_to : ImproverState → Span → Timetable → ImproverState
led_to v s P = record v { rounds = v.rounds + 1; attempts = v.attempts + s.attempts; kept = P }

-- A round with this span leads to P. Each worker leaves a timetable that `may_leave` allows, by what the round begins with
-- and the worker's number. P is the best of the timetable before the round and of these, the first on a tie.
pub record Leads (may_leave : LegState → ℕ → Timetable → Type 0) (v : ImproverState) (s : Span) (P : Timetable) : Type 0
  where
    pub left : List Timetable
    pub each_worker : length left ≡ v.settings.workers
    pub leaves : (w : ℕ) (Q : Timetable) → slice_get left w ≡ Some Q → may_leave (leg_of v s) w Q
    pub best : P ≡ best_of (terms_of v) v.kept left
