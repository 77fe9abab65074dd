use Rattle.std.proofs.Common.{◌≡◌, ◌-◌, length, vec_capacity}
use Rattle.ih_advise.proofs.Places.{HasCome}
use Rattle.ih_advise.proofs.findings.Findings.find_all.Given as goal

abbrev pub invariant-loop-at : goal.invariant-loop-at
invariant-loop-at l = record {
  come : HasCome l.inst.draft l.scorer.hard l.scorer.plan l.choices l.workers l.worker l.at l.self.found.items;
  room : vec_capacity l.self.found ≡ vec_capacity l.fn.self.found;
}

abbrev pub decreases-loop-at : goal.decreases-loop-at
decreases-loop-at l = length l.choices - l.at
