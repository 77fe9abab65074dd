-- Offers read off what a replica keeps.
use Rattle.std.specs.Prelude.{ℕ, ◌==◌, Bool, List, [], slice_index, count_by, if◌then◌else◌}
use Rattle.ih_plan.specs.declared.moves.Move.{Move}
use Rattle.ih_plan.specs.Sums.{tagged}
use Rattle.ih_plan.specs.Series.{footprint_of_all, price_of_all}
use Rattle.ih_journal.specs.Frozen.{is_frozen}
use Rattle.ih_cellbook.specs.Offered.{Offered}
use Rattle.ih_cellbook.specs.Counters.{is_compared}
use Rattle.ih_cellbook.specs.ReplicaState.{ReplicaState}

-- how often a cell is listed
abbrev pub times_listed : ℕ → List ℕ → ℕ
times_listed n cells = count_by (λ x. x == n) cells

-- the cells of an attempt's footprint, each with its version, by what the replica keeps
abbrev pub reads_of : ReplicaState → List Move → List (ℕ × ℕ)
reads_of r m = tagged (slice_index r.versions) (footprint_of_all r.base.instance r.plan m)

-- the verdict on the attempt of this number rests on them
abbrev pub asks_reads : ReplicaState → ℕ → List Move → Bool
asks_reads r number m =
    is_compared r.base.instance r.base.options (is_frozen r.base r.plan m) number
    (price_of_all r.base.instance r.plan m)

-- the offer of this number and moves, by the timetable that the replica keeps, with these cells
abbrev pub offer_with : ReplicaState → ℕ → List Move → List (ℕ × ℕ) → Offered
offer_with r number m reads = record {
  worker = r.worker;
  number = number;
  seen = r.seen;
  moves = m;
  price = price_of_all r.base.instance r.plan m;
  reads = record r.last.reads { pairs = reads };
  frozen = is_frozen r.base r.plan m;
}

-- the offer with the cells that its verdict rests on
abbrev pub offer_of : ReplicaState → ℕ → List Move → Offered
offer_of r number m = offer_with r number m (if asks_reads r number m then reads_of r m else [])

-- the offer with all cells of the footprint
abbrev pub priced_of : ReplicaState → ℕ → List Move → Offered
priced_of r number m = offer_with r number m (reads_of r m)
