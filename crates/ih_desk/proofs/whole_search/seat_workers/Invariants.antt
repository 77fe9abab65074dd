use Rattle.std.proofs.Common.{◌≡◌, ◌++◌}
use Rattle.std.specs.List.{AllZip}
use Rattle.std.specs.Vec.Iter.{into_iter_items}
use Rattle.ih_desk.specs.Searching.{base_given}
use Rattle.ih_desk.specs.Workers.{IsNewWorker}
use Rattle.ih_desk.proofs.whole_search.seat_workers.Given as goal

-- the seats so far have their workers
abbrev pub invariant-loop-seat : goal.invariant-loop-seat
invariant-loop-seat g l = record {
  each : AllZip (IsNewWorker (base_given l.given) l.each) l.workers.items l.yielded;
  rest : l.fn.seats.items ≡ l.yielded ++ into_iter_items l.seat-iterator;
}
