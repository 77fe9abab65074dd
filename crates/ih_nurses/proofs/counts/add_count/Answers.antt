use Rattle.std.proofs.Common.{refl, subst, ◌<◌, ◌+◌}
use Rattle.std.specs.Prelude.{IfSome, slice_index_or}
use Rattle.ih_tables.specs.Sizes.{nurse_count}
use Rattle.ih_nurses.proofs.CountSteps.{count-added}
use Rattle.ih_nurses.proofs.counts.add_count.Goals as goal

pub returns-in-Some-clause-each : goal.returns-in-Some-clause-each
returns-in-Some-clause-each c =
    let nurse = subst (λ n. IfSome n (λ a. a.0 < nurse_count c.args.inst.now.draft)) c.in-Some.is c.requires.nurse in
    rw (c.in-Some.is)
    (count-added c.args.inst.now.draft c.args.counts.now c.args.person c.in-Some.a c.place.result c.requires.table c.requires.person nurse
    c.place.ensures.value (slice_index_or c.args.counts.now c.place.result 0 + 1) refl)
