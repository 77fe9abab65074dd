use Rattle.std.proofs.Common.{arith}
use Rattle.ih_nurses.proofs.StayLemmas.{stay-shift, taken-none, taken-more, taken-all, taken-enough}
use Rattle.ih_nurses.proofs.stays.take_stay.Goals as goal

pub loop-k-init : goal.loop-k-init
loop-k-init c = taken-none c.requires.table

pub take_load-requires-clause-enough : goal.take_load-requires-clause-enough
take_load-requires-clause-enough c =
    taken-enough c.loop-k.invariant
    (stay-shift (omega arith) (omega arith) c.end_of-end.ensures.value c.nurse_at-nurse.ensures.choice c.workload-load.ensures.value)
    (omega arith) c.requires.enough

pub loop-k-preserved : goal.loop-k-preserved
loop-k-preserved c =
    taken-more c.loop-k.invariant (stay-shift (omega arith) (omega arith) c.end_of-end.ensures.value
    c.nurse_at-nurse.ensures.choice c.workload-load.ensures.value) c.take_load.ensures.table
    c.take_load.ensures.each

pub returns-clause-each : goal.returns-clause-each
returns-clause-each c = taken-all (omega arith) c.end_of-end.ensures.value c.loop-k.invariant
