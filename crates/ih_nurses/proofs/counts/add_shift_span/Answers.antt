use Rattle.std.proofs.Common.{arith}
use Rattle.ih_nurses.proofs.CountLemmas.{counted-none, counted-fits, counted-more, counted-all}
use Rattle.ih_nurses.proofs.counts.add_shift_span.Goals as goal

pub loop-j-init : goal.loop-j-init
loop-j-init c = counted-none c.args.inst.now.draft c.args.plan.now c.args.person c.args.span c.args.counts.now

pub add_count-requires-clause-fits : goal.add_count-requires-clause-fits
add_count-requires-clause-fits c = λ m mh.
    let days = c.args.inst.now.valid.days.most in
    let inside = c.requires.shift_span.1 in
    omega (arith, counted-fits c.loop-j.invariant c.requires.none m mh, days, inside)

pub loop-j-preserved : goal.loop-j-preserved
loop-j-preserved c = counted-more c.loop-j.invariant c.nurse_at-nurse.result c.nurse_at-nurse.ensures.choice c.add_count.new.counts c.add_count.ensures.len c.add_count.ensures.each

pub returns-clause-each : goal.returns-clause-each
returns-clause-each c = counted-all (omega arith) c.loop-j.invariant
