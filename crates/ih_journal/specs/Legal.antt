-- Which entry may follow a history, and when a history is full.
use Rattle.std.specs.Prelude.{◌≡◌, ℕ, ◌<◌, ◌≤◌, ◌*◌, ◌&&◌, true, List, length, map, take, drop, Option, Some, None, slice_get, if◌then◌else◌, int_lt, find}
use Rattle.std.specs.List.{range_with_len}
use Rattle.ih_tables.specs.declared.drafts.Draft.{Draft}
use Rattle.ih_tables.specs.declared.bills.Bill.{Bill}
use Rattle.ih_tables.specs.Bills.{score}
use Rattle.ih_plan.specs.declared.moves.Move.{Move}
use Rattle.ih_plan.specs.Timetable.{Timetable}
use Rattle.ih_plan.specs.Cells.{cell_at, cell_count}
use Rattle.ih_plan.specs.Series.{AreMoves, all_touch, price_of_all}
use Rattle.ih_journal.specs.Tried.{Tried}
use Rattle.ih_journal.specs.declared.entries.Verdict.{Verdict}
use Rattle.ih_journal.specs.declared.entries.Verdict.TheVariants.{Accepted, Declined, Stale, Frozen}
use Rattle.ih_journal.specs.Settings.{theta}
use Rattle.ih_journal.specs.Base.{Base}
use Rattle.ih_journal.specs.Frozen.{is_frozen}
use Rattle.ih_plan.specs.Draws.{move_of}
use Rattle.ih_journal.specs.Attempts.{next_try, is_done}
use Rattle.ih_journal.specs.History.{plan_at, version, touched_since}

-- the first cell, by number, that the moves touch at P and that an accepted one of the entries that follow P touches
unfoldable pub first_touched : Draft → Timetable → List Tried → List Move → Option ℕ
first_touched I P es m =
    find (λ n. all_touch I P m (cell_at I n) && touched_since I P es (cell_at I n)) (range_with_len 0 (cell_count I))

abbrev pub stale_or_accepted : Base → List Tried → ℕ → Option ℕ → Verdict
stale_or_accepted b H seen None = Accepted
stale_or_accepted b H seen (Some n) = Stale (cell_at b.instance n)
    (version b (take seen H) (cell_at b.instance n)) (version b H (cell_at b.instance n))

-- the verdict on an offer after the entries H, of which its maker has seen the first `seen`
unfoldable pub verdict_on : Base → List Tried → ℕ → ℕ → List Move → Bill → Verdict
verdict_on b H number seen m price =
    if is_frozen b (plan_at b H seen) m
    then Frozen
    else if int_lt (theta b.options number) (score b.options.hard b.instance.weights price)
    then Declined
    else stale_or_accepted b H seen (first_touched b.instance (plan_at b H seen) (drop seen H) m)

-- e may come after the entries H, but for its draw
pub record IsLegalButDraw (b : Base) (H : List Tried) (e : Tried) : Type 0 where
  pub worker : e.worker < b.options.workers
  -- the worker's next attempt
  pub attempt : next_try b.options H e.worker ≡ Some (record { number = e.number; again = e.again })
  pub move : AreMoves b.instance e.moves
  pub seen : e.seen ≤ length H
  -- the maker has seen its own last entry
  pub after_own : (j : ℕ) (f : Tried) → slice_get H j ≡ Some f → f.worker ≡ e.worker → j < e.seen
  pub price : e.price ≡ price_of_all b.instance (plan_at b H e.seen) e.moves
  pub verdict : e.verdict ≡ verdict_on b H e.number e.seen e.moves e.price

-- attempt i of worker w, where each attempt has so many moves: the worker's draws from i * each on
abbrev pub attempt_of : Base → ℕ → ℕ → ℕ → List Move
attempt_of b each w i = map (move_of b.instance b.options.seed w) (range_with_len (i * each) each)

-- e may come after the entries H
pub record IsLegal (b : Base) (each : ℕ) (H : List Tried) (e : Tried) : Type 0 where
  pub entry : IsLegalButDraw b H e
  pub drawn : e.moves ≡ attempt_of b each e.worker e.number

-- each entry may come after those before it
abbrev pub AreLegal : Base → ℕ → List Tried → Type 0
AreLegal b each H = (k : ℕ) (e : Tried) → slice_get H k ≡ Some e → IsLegal b each (take k H) e

-- every entry is legal, and every worker has made all its attempts
pub record IsFull (b : Base) (each : ℕ) (H : List Tried) : Type 0 where
  pub legal : AreLegal b each H
  pub done : (w : ℕ) → w < b.options.workers → is_done b.options H w ≡ true
