use Rattle.std.proofs.Common.{◌≡◌, ℕ, length, Some, []}
use Rattle.std.specs.Prelude.{slice_get}
use Rattle.ih_cellbook.specs.Keeping.{base_with}
use Rattle.ih_replay.specs.declared.workers.ReplayWorker.{ReplayWorker}
use Rattle.ih_replay.specs.Keeping.{IsWorkerIn}
use Rattle.ih_replay.proofs.workers.new_workers.Given as goal

abbrev pub invariant-loop-worker : goal.invariant-loop-worker
invariant-loop-worker l = record {
  many : length l.workers.items ≡ l.worker;
  each : (w : ℕ) (x : ReplayWorker) → slice_get l.workers.items w ≡ Some x → IsWorkerIn (base_with l.inst.draft l.start l.options l.freeze) [] w x;
}
