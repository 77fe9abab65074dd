use Rattle.std.proofs.Common.{arith, subst, ◌≤◌, ◌<◌, ◌-◌}
use Rattle.std.specs.Prelude.{IfSome, slice_index_or}
use Rattle.ih_tables.specs.Sizes.{nurse_count}
use Rattle.ih_nurses.specs.Counts.{count_at, one_of}
use Rattle.ih_nurses.proofs.CountSteps.{count-taken, one-here, read-count}
use Rattle.ih_nurses.proofs.counts.take_count.Goals as goal

pub returns-in-Some-clause-each : goal.returns-in-Some-clause-each
returns-in-Some-clause-each c =
    let I = c.args.inst.now.draft in
    let counts = c.args.counts.now in
    let nurse = subst (λ n. IfSome n (λ a. a.0 < nurse_count I)) c.in-Some.is c.requires.nurse in
    let enough = subst (λ n. one_of c.args.person n c.args.person c.in-Some.a.0 ≤ count_at I counts c.args.person c.in-Some.a.0) c.in-Some.is (c.requires.enough c.in-Some.a.0 nurse) in
    let whole = one-here I counts c.args.person c.in-Some.a c.place.result c.requires.table c.requires.person nurse c.place.ensures.value in
    let there = read-count I counts c.args.person c.in-Some.a c.place.result c.requires.table c.requires.person nurse c.place.ensures.value in
    rw (c.in-Some.is)
    (count-taken I counts c.args.person c.in-Some.a c.place.result c.requires.table c.requires.person nurse
    c.place.ensures.value (slice_index_or counts c.place.result 0 - 1) (omega (arith, enough, whole, there)))
