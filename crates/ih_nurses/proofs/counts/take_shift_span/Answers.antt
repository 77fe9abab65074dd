use Rattle.std.proofs.Common.{arith}
use Rattle.ih_nurses.proofs.CountLemmas.{uncounted-none, uncounted-enough, uncounted-more, uncounted-all}
use Rattle.ih_nurses.proofs.counts.take_shift_span.Goals as goal

pub loop-j-init : goal.loop-j-init
loop-j-init c = uncounted-none c.args.inst.now.draft c.args.plan.now c.args.person c.args.span c.args.counts.now

pub take_count-requires-clause-enough : goal.take_count-requires-clause-enough
take_count-requires-clause-enough c =
    uncounted-enough c.loop-j.invariant (omega arith) c.nurse_at-nurse.result c.nurse_at-nurse.ensures.choice c.requires.enough

pub loop-j-preserved : goal.loop-j-preserved
loop-j-preserved c = uncounted-more c.loop-j.invariant c.nurse_at-nurse.result c.nurse_at-nurse.ensures.choice c.take_count.new.counts c.take_count.ensures.len c.take_count.ensures.each

pub returns-clause-each : goal.returns-clause-each
returns-clause-each c = uncounted-all (omega arith) c.loop-j.invariant
