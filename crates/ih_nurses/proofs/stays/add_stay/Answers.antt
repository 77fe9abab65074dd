use Rattle.std.proofs.Common.{arith, ◌<◌}
use Rattle.ih_tables.specs.Sizes.{shift_count}
use Rattle.ih_nurses.proofs.StayLemmas.{stay-shift, added-none, added-more, added-all, added-fits}
use Rattle.ih_nurses.proofs.stays.add_stay.Goals as goal

pub loop-k-init : goal.loop-k-init
loop-k-init c = added-none c.requires.table

pub add_load-requires-clause-fits : goal.add_load-requires-clause-fits
add_load-requires-clause-fits c = λ m mh.
    let shift : c.loop-k.k < shift_count c.args.inst.now.draft = omega arith in
    let small = c.requires.small m c.loop-k.k mh shift in
    omega (arith, small, added-fits c.loop-k.invariant shift m mh, c.workload-load.ensures.bound)

pub loop-k-preserved : goal.loop-k-preserved
loop-k-preserved c =
    added-more c.loop-k.invariant (stay-shift (omega arith) (omega arith) c.end_of-end.ensures.value
    c.nurse_at-nurse.ensures.choice c.workload-load.ensures.value) c.add_load.ensures.table
    c.add_load.ensures.each

pub returns-clause-each : goal.returns-clause-each
returns-clause-each c = added-all (omega arith) c.end_of-end.ensures.value c.loop-k.invariant
