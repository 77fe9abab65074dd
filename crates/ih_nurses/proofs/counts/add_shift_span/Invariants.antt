use Rattle.ih_nurses.proofs.CountLemmas.{AreCounted}
use Rattle.ih_nurses.proofs.counts.add_shift_span.Given as goal

abbrev pub invariant-loop-j : goal.invariant-loop-j
invariant-loop-j l = AreCounted l.fn.inst.draft l.fn.plan l.fn.person l.fn.span l.fn.counts l.counts l.j
