use Rattle.std.proofs.Common.{◌≡◌, vec_capacity, All, length}
use Rattle.ih_improve.specs.Keeping.{IsOf, StandsOn}
use Rattle.ih_improve.proofs.improver.new_workers.Given as goal

abbrev pub invariant-loop : goal.invariant-loop
invariant-loop l = record {
  len : length l.workers.items ≡ l.counter;
  room : vec_capacity l.workers ≡ l.settings.workers;
  instance : All (IsOf l.inst.draft) l.workers.items;
  stands : All (StandsOn l.plan) l.workers.items;
}
