-- What a book keeps beside its entries: each follows from them.
use Rattle.std.specs.Prelude.{◌≡◌, ℕ, ◌<◌, List, length, slice_index, Option, ℤ}
use Rattle.ih_tables.specs.declared.drafts.Draft.{Draft}
use Rattle.ih_tables.specs.declared.bills.Bill.{Bill}
use Rattle.ih_plan.specs.Timetable.{Timetable, IsPlanOf}
use Rattle.ih_plan.specs.BillOf.{bill_of}
use Rattle.ih_plan.specs.Cells.{cell_at, cell_count}
use Rattle.ih_journal.specs.Tried.{Tried}
use Rattle.ih_journal.specs.declared.settings.Options.{Options}
use Rattle.ih_journal.specs.Settings.{IsLawful}
use Rattle.ih_journal.specs.Attempts.{try_after, last_by}
use Rattle.ih_journal.specs.Base.{Base}
use Rattle.ih_journal.specs.Best.{BestIs}
use Rattle.ih_journal.specs.History.{plan_after, version}
use Rattle.ih_cellbook.specs.Legal.{AreLegalButDraws}

-- what a book is opened with
abbrev pub base_with : Draft → Timetable → Options → ℕ → Base
base_with I P o freeze = record { instance = I; start = P; options = o; freeze = freeze }

-- the start is a timetable of the instance, and the options are within their limits
pub record IsBase (b : Base) : Type 0 where
  pub start : IsPlanOf b.instance b.start
  pub lawful : IsLawful b.options

-- the counters are the cells' versions
pub record AreVersions (b : Base) (H : List Tried) (counters : List ℕ) : Type 0 where
  pub len : length counters ≡ cell_count b.instance
  pub each : (n : ℕ) → n < cell_count b.instance → slice_index counters n ≡ version b H (cell_at b.instance n)

-- the numbers are how often each worker's next attempt was tried before
pub record AreAgain (b : Base) (H : List Tried) (ns : List ℕ) : Type 0 where
  pub len : length ns ≡ b.options.workers
  pub each : (w : ℕ) → w < b.options.workers → slice_index ns w ≡ (try_after b.options (last_by w H)).again

-- all that is promised of a book with these counters and numbers of tries, the bill now, and the best found
pub record IsKept (b : Base) (H : List Tried) (cs ns : List ℕ) (now : Bill) (found : Option (ℕ × ℤ)) : Type 0 where
  pub base : IsBase b
  pub legal : AreLegalButDraws b H
  pub versions : AreVersions b H cs
  pub again : AreAgain b H ns
  -- the bill of the timetable after all entries
  pub bill : now ≡ bill_of b.instance (plan_after b H)
  pub best : BestIs b H found
