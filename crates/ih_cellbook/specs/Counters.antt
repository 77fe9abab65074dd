-- A counter for each cell, by number: how a verdict compares them with the versions read, and which of them rise.
use Rattle.std.specs.Prelude.{ℕ, ◌+◌, ◌==◌, ◌&&◌, not, Bool, true, false, List, map, find, Option, Some, None, int_lt, if◌then◌else◌}
use Rattle.std.specs.List.{count_by}
use Rattle.ih_tables.specs.declared.drafts.Draft.{Draft}
use Rattle.ih_tables.specs.declared.bills.Bill.{Bill}
use Rattle.ih_tables.specs.Bills.{score}
use Rattle.ih_plan.specs.Cells.{cell_at}
use Rattle.ih_plan.specs.Sums.{bit, is_listed}
use Rattle.ih_journal.specs.declared.entries.Verdict.{Verdict}
use Rattle.ih_journal.specs.declared.entries.Verdict.TheVariants.{Accepted, Declined, Stale, Frozen}
use Rattle.ih_journal.specs.Settings.{theta}
use Rattle.ih_journal.specs.declared.settings.Options.{Options}
use Rattle.ih_cellbook.specs.Offered.{Offered}

-- the first cell read whose counter isn't the version read, with that version
abbrev pub first_differing : (ℕ → ℕ) → List (ℕ × ℕ) → Option (ℕ × ℕ)
first_differing counter reads = find (λ (r : ℕ × ℕ). not (counter r.0 == r.1)) reads

-- stale by that cell, or accepted where there is none
abbrev pub stale_by : Draft → (ℕ → ℕ) → Option (ℕ × ℕ) → Verdict
stale_by I counter None = Accepted
stale_by I counter (Some r) = Stale (cell_at I r.0) r.1 (counter r.0)

-- the versions read decide: the attempt isn't frozen, and its price's score is at most what its number may cost
abbrev pub is_compared : Draft → Options → Bool → ℕ → Bill → Bool
is_compared I o frozen number price = not frozen && not (int_lt (theta o number) (score o.hard I.weights price))

-- The verdict on an offer. It compares numbers, and looks at no timetable and no entry.
unfoldable pub verdict_by_counters : Draft → Options → (ℕ → ℕ) → Offered → Verdict
verdict_by_counters I o counter offer =
    if offer.frozen then Frozen
    else if int_lt (theta o offer.number) (score o.hard I.weights offer.price) then Declined
    else stale_by I counter (first_differing counter offer.reads.pairs)

-- the counters after a verdict: where the attempt was accepted, one more for each cell that was read
abbrev pub risen_where : Bool → (ℕ → ℕ) → List (ℕ × ℕ) → ℕ → ℕ
risen_where false counter reads n = counter n
risen_where true counter reads n = counter n + bit (is_listed n (map (λ (r : ℕ × ℕ). r.0) reads))

-- how often a cell was read
abbrev pub times_read : ℕ → List (ℕ × ℕ) → ℕ
times_read n reads = count_by (λ (r : ℕ × ℕ). r.0 == n) reads
