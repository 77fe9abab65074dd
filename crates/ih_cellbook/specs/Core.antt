-- The core of a search as a machine: workers look at the history and offer attempts, in any order.
use Rattle.std.specs.Prelude.{◌≡◌, ℕ, ◌+◌, ◌==◌, ◌<◌, ◌≤◌, false, List, [], ◌∷◌, ◌++◌, length, take, if◌then◌else◌}
use Rattle.ih_tables.specs.declared.drafts.Draft.{Draft}
use Rattle.ih_plan.specs.declared.moves.Move.{Move}
use Rattle.ih_plan.specs.Cells.{cell_at, cell_count}
use Rattle.ih_plan.specs.Series.{AreMoves}
use Rattle.ih_journal.specs.Tried.{Tried}
use Rattle.ih_journal.specs.declared.entries.Verdict.{Verdict}
use Rattle.ih_journal.specs.Attempts.{is_done}
use Rattle.ih_journal.specs.Base.{Base}
use Rattle.ih_journal.specs.History.{is_accepted, version}
use Rattle.ih_cellbook.specs.Counters.{verdict_by_counters, risen_where}
use Rattle.ih_cellbook.specs.Keeping.{IsBase}
use Rattle.ih_cellbook.specs.Legal.{AreExact, AreLegalButDraws}
use Rattle.ih_cellbook.specs.Offers.{HasSeenOwn, entry_of, offer_at, reads_after}

-- The entries so far, a counter for each cell by number, and how many entries each worker has seen.
pub record State : Type 0 where
  pub history : List Tried
  pub counters : ℕ → ℕ
  pub seen_by : ℕ → ℕ

-- nothing was offered yet
abbrev pub opening : State
opening = record { history = []; counters = λ n. 0; seen_by = λ w. 0 }

pub data Event : Type 0 where
  -- a worker looks at the whole history
  looks : ℕ → Event
  -- a worker offers an attempt, priced on the first entries alone
  offers : ℕ → ℕ → List Move → Event

-- The worker isn't done; it has seen the first n entries, on which it prices, and they reach past its own last one.
pub record MayOffer (b : Base) (s : State) (w n : ℕ) (m : List Move) : Type 0 where
  pub worker : w < b.options.workers
  pub not_done : is_done b.options s.history w ≡ false
  pub move : AreMoves b.instance m
  pub seen : n ≤ s.seen_by w
  pub after_own : HasSeenOwn s.history w n

-- the event may come in this state
abbrev pub MayCome : Base → State → Event → Type 0
MayCome b s (looks w) = Unit {0}
MayCome b s (offers w seen m) = MayOffer b s w seen m

-- the verdict on a worker's next attempt, whose price, footprint and versions are taken on the first `seen` entries
-- alone
abbrev pub verdict_in : Base → State → ℕ → ℕ → List Move → Verdict
verdict_in b s w seen m = verdict_by_counters b.instance b.options s.counters (offer_at b s.history w seen m)

-- the entry of that attempt
abbrev pub entry_in : Base → State → ℕ → ℕ → List Move → Tried
entry_in b s w seen m = entry_of b s.history (offer_at b s.history w seen m) (verdict_in b s w seen m)

-- the counters after it: where it is accepted, those of its footprint are one more
abbrev pub counters_in : Base → State → ℕ → ℕ → List Move → ℕ → ℕ
counters_in b s w seen m = risen_where (is_accepted (verdict_in b s w seen m)) s.counters
    (reads_after b (take seen s.history) m)

-- what one worker has seen is moved on, the others' stays
abbrev pub seen_by_at : (ℕ → ℕ) → ℕ → ℕ → ℕ → ℕ
seen_by_at seen_by w front v = if v == w then front else seen_by v

-- the state after an event
abbrev pub step : Base → State → Event → State
step b s (looks w) = record s { seen_by = seen_by_at s.seen_by w (length s.history) }
step b s (offers w seen m) = record {
  history = s.history ++ entry_in b s w seen m ∷ [];
  counters = counters_in b s w seen m;
  seen_by = seen_by_at s.seen_by w (length s.history + 1);
}

-- the state after a schedule
unfoldable pub run_from : Base → State → List Event → State
run_from b s [] = s
run_from b s (v ∷ vs) = run_from b (step b s v) vs

-- each event may come where it stands
unfoldable pub IsScheduleFrom : Base → State → List Event → Type 0
IsScheduleFrom b s [] = Unit {0}
IsScheduleFrom b s (v ∷ vs) = MayCome b s v × IsScheduleFrom b (step b s v) vs

-- The history is legal but for its draws, the counters are the versions, and each accepted price is exact at its place.
pub record IsLegalState (b : Base) (s : State) : Type 0 where
  pub legal : AreLegalButDraws b s.history
  pub versions : (n : ℕ) → n < cell_count b.instance → s.counters n ≡ version b s.history (cell_at b.instance n)
  pub exact : AreExact b s.history
  -- nobody has seen more than there is
  pub seen_by : (w : ℕ) → s.seen_by w ≤ length s.history

-- every schedule, of any number of workers, leads to such a state
abbrev pub SchedulesAreLegal : Draft → Type 0
SchedulesAreLegal I = (b : Base) (events : List Event) → b.instance ≡ I → IsBase b → IsScheduleFrom b opening events
    → IsLegalState b (run_from b opening events)
