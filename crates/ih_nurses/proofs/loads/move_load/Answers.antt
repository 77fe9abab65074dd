use Rattle.std.proofs.Common.{arith}
use Rattle.ih_nurses.proofs.loads.move_load.Goals as goal

pub add_load-requires-clause-fits : goal.add_load-requires-clause-fits
add_load-requires-clause-fits c = λ m mh.
    let taken = c.take_load.ensures.each m c.args.shift.0 mh c.requires.shift in
    let small = c.requires.small m mh in
    omega (arith, taken, small, c.requires.load)

pub returns-clause-each : goal.returns-clause-each
returns-clause-each c = λ m j mh jh.
    let taken = c.take_load.ensures.each m j mh jh in
    let added = c.add_load.ensures.each m j mh jh in
    omega (arith, taken, added)
