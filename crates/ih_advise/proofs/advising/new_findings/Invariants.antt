use Rattle.std.proofs.Common.{◌≡◌, [], vec_capacity, All, length}
use Rattle.ih_advise.proofs.advising.new_findings.Given as goal

abbrev pub invariant-loop : goal.invariant-loop
invariant-loop l = record {
  len : length l.findings.items ≡ l.counter;
  room : vec_capacity l.findings ≡ l.workers;
  ready : All (λ a. (a.found.items ≡ []) × (vec_capacity a.found ≡ l.most)) l.findings.items;
}
