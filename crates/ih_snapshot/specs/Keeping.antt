-- What a replica keeps, and one entry more.
use Rattle.std.specs.Prelude.{◌≡◌, ℕ, ◌+◌, ◌<◌, ◌≤◌, ◌^◌, true, List, length, map, slice_index}
use Rattle.ih_tables.specs.Sizes.{NumberingState, sizes_of}
use Rattle.ih_tables.specs.declared.drafts.Draft.{Draft}
use Rattle.ih_plan.specs.Timetable.{Timetable}
use Rattle.ih_plan.specs.Cells.{cell_at, cell_count}
use Rattle.ih_plan.specs.Sums.{bit}
use Rattle.ih_plan.specs.Series.{AreMoves, footprint_of_all}
use Rattle.ih_journal.specs.Tried.{Tried}
use Rattle.ih_journal.specs.Base.{Base}
use Rattle.ih_journal.specs.History.{after_entry, touches_accepted, is_accepted}
use Rattle.ih_costs.specs.LedgersState.{LedgersState}
use Rattle.ih_cellbook.specs.Offered.{Offered}
use Rattle.ih_cellbook.specs.Keeping.{IsBase}
use Rattle.ih_cellbook.specs.ReplicaState.{ReplicaState}

-- The ledgers, the versions, the list of cells and the room for reads are of the instance.
pub record IsOfBase (b : Base) (l : LedgersState) (vs : List ℕ) (z : NumberingState) (o : Offered) : Type 0 where
  pub base : IsBase b
  pub instance : l.instance ≡ b.instance
  pub versions : length vs ≡ cell_count b.instance
  pub sizes : z ≡ sizes_of b.instance
  pub room : o.reads.room ≡ cell_count b.instance

-- If the entry is that of the last offer, and the offer read any cells, they are those that the entry's moves touch at
-- P.
abbrev pub IsOwnRead : Draft → Timetable → Offered → Tried → Type 0
IsOwnRead I P last e = 0 < length last.reads.pairs → e.seen ≡ last.seen → e.moves ≡ last.moves
    → map (λ (r : ℕ × ℕ). r.0) last.reads.pairs ≡ footprint_of_all I P e.moves

-- The entry can be taken over: its move is in range, the counts stay small, and what is the worker's own was read off.
pub record CanTake (r : ReplicaState) (e : Tried) : Type 0 where
  pub move : AreMoves r.base.instance e.moves
  pub seen : r.seen + 1 < 2 ^ 32
  pub small : (n : ℕ) → slice_index r.versions n ≤ 10 ^ 6
  pub own : is_accepted e.verdict ≡ true → IsOwnRead r.base.instance r.plan r.last e

-- The second is the first after one entry more: the timetable after it, and versions raised where it is accepted and
-- touches.
pub record HasTaken (r : ReplicaState) (e : Tried) (s : ReplicaState) : Type 0 where
  pub base : s.base ≡ r.base
  pub worker : s.worker ≡ r.worker
  pub last : s.last ≡ r.last
  pub seen : s.seen ≡ r.seen + 1
  pub plan : s.plan ≡ after_entry r.base.instance r.plan e
  pub len : length s.versions ≡ length r.versions
  pub each : (n : ℕ) → n < cell_count r.base.instance
      → slice_index s.versions n ≡ slice_index r.versions n + bit
      (touches_accepted r.base.instance r.plan e (cell_at r.base.instance n))
