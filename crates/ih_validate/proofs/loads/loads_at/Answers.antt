use Rattle.std.proofs.Common.{◌≡◌, ◌∙◌, arith}
use Rattle.ih_tables.specs.Sizes.{person_count}
use Rattle.ih_validate.proofs.LoadLemmas.{are_loads-none, are_loads-more, load-by_person}
use Rattle.ih_validate.proofs.loads.loads_at.Goals as goal

pub loop-x-init : goal.loop-x-init
loop-x-init c = are_loads-none c.args.inst.now.draft c.args.plan.now c.args.shift

pub loop-x-preserved : goal.loop-x-preserved
loop-x-preserved c =
    are_loads-more c.add_load.new.loads c.carer.result c.workload_of-load.result c.loop-x.invariant c.carer.ensures.value c.workload_of-load.ensures.value c.workload_of-load.ensures.bound
    c.add_load.ensures.len c.add_load.ensures.each

pub returns-clause-each : goal.returns-clause-each
returns-clause-each c = λ n.
    let whole : c.loop-x.x ≡ person_count c.args.inst.now.draft = omega arith in
    c.loop-x.invariant.each n ∙ rw whole (load-by_person c.args.inst.now.draft c.args.plan.now n c.args.shift c.args.inst.now.valid c.requires.plan)
