use Rattle.ih_nurses.proofs.CountLemmas.{AreUncounted}
use Rattle.ih_nurses.proofs.counts.take_shift_span.Given as goal

abbrev pub invariant-loop-j : goal.invariant-loop-j
invariant-loop-j l = AreUncounted l.fn.inst.draft l.fn.plan l.fn.person l.fn.span l.fn.counts l.counts l.j
