use Rattle.std.proofs.Common.{◌≡◌, length, vec_capacity, All}
use Rattle.ih_bound.specs.declared.prices.Rates.{Rates}
use Rattle.ih_bound.specs.Dealing.{HasFloors}
use Rattle.ih_bound.proofs.dealing.new_workers.Given as goal

abbrev pub invariant-loop : goal.invariant-loop
invariant-loop l = record {
  len : length l.workers.items ≡ l.counter;
  room : vec_capacity l.workers ≡ l.count;
  floors : (rates : Rates) → All (HasFloors l.inst.draft rates) l.workers.items;
}
