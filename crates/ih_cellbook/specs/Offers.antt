-- Offers that are right for a history.
use Rattle.std.specs.Prelude.{◌≡◌, ℕ, ◌<◌, ◌≤◌, true, List, length, take, map, Option, Some, slice_get, option_map}
use Rattle.ih_plan.specs.Cells.{cell_at}
use Rattle.ih_plan.specs.declared.moves.Move.{Move}
use Rattle.ih_plan.specs.Series.{AreMoves, footprint_of_all, price_of_all}
use Rattle.ih_journal.specs.declared.settings.Options.{Options}
use Rattle.ih_journal.specs.Tried.{Tried, tried_by}
use Rattle.ih_journal.specs.declared.entries.Verdict.{Verdict}
use Rattle.ih_journal.specs.Attempts.{TryNumber, try_after, last_by, next_try}
use Rattle.ih_journal.specs.Base.{Base}
use Rattle.ih_journal.specs.Frozen.{is_frozen}
use Rattle.ih_journal.specs.History.{plan_after, plan_at, version}
use Rattle.ih_journal.specs.Legal.{verdict_on}
use Rattle.ih_cellbook.specs.Offered.{Offered}
use Rattle.ih_cellbook.specs.Counters.{is_compared}

-- the cells of the attempt's footprint after the entries, rising by number, each with its version there
abbrev pub reads_after : Base → List Tried → List Move → List (ℕ × ℕ)
reads_after b H m = map (λ n. (n, version b H (cell_at b.instance n))) (footprint_of_all b.instance (plan_after b H) m)

-- the number of a worker's next attempt, where the worker isn't done
abbrev pub next_number : Options → List Tried → ℕ → Option ℕ
next_number o H w = option_map (λ (a : TryNumber). a.number) (next_try o H w)

-- each entry of worker w has a place below seen
abbrev pub HasSeenOwn : List Tried → ℕ → ℕ → Type 0
HasSeenOwn H w seen = (j : ℕ) (e : Tried) → slice_get H j ≡ Some e → e.worker ≡ w → j < seen

-- The offer is the worker's next attempt, priced on the first `seen` of the entries.
pub record IsRightOffer (b : Base) (H : List Tried) (o : Offered) : Type 0 where
  pub worker : o.worker < b.options.workers
  -- the worker isn't done, and this is its next attempt
  pub number : next_number b.options H o.worker ≡ Some o.number
  pub move : AreMoves b.instance o.moves
  pub seen : o.seen ≤ length H
  pub after_own : HasSeenOwn H o.worker o.seen
  pub price : o.price ≡ price_of_all b.instance (plan_at b H o.seen) o.moves
  -- asked for only where the offer is neither frozen nor too dear
  pub reads : is_compared b.instance b.options o.frozen o.number o.price ≡ true
      → o.reads.pairs ≡ reads_after b (take o.seen H) o.moves
  pub frozen : o.frozen ≡ is_frozen b (plan_at b H o.seen) o.moves

-- The offer is right for the entries, and this is the verdict on it.
pub record IsJudged (b : Base) (H : List Tried) (o : Offered) (v : Verdict) : Type 0 where
  pub right : IsRightOffer b H o
  pub verdict : v ≡ verdict_on b H o.number o.seen o.moves o.price

-- the next attempt of a worker that isn't done, priced on the first `seen` of the entries
abbrev pub offer_at : Base → List Tried → ℕ → ℕ → List Move → Offered
offer_at b H w seen m = record {
  worker = w;
  number = (try_after b.options (last_by w H)).number;
  seen = seen;
  moves = m;
  price = price_of_all b.instance (plan_at b H seen) m;
  reads = record { pairs = reads_after b (take seen H) m; room = length (reads_after b (take seen H) m) };
  frozen = is_frozen b (plan_at b H seen) m;
}

-- the entry that an offer becomes: the worker's next try, with a verdict
abbrev pub entry_of : Base → List Tried → Offered → Verdict → Tried
entry_of b H o verdict = record {
  worker = o.worker;
  number = o.number;
  again = (try_after b.options (last_by o.worker H)).again;
  seen = o.seen;
  moves = o.moves;
  price = o.price;
  verdict = verdict;
}

-- the entry of an offer with this try and verdict
abbrev pub entry_with : Offered → ℕ → Verdict → Tried
entry_with o again v = tried_by o.worker o.number again o.seen o.moves o.price v
