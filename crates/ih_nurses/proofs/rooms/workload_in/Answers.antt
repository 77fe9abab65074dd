use Rattle.std.proofs.Common.{arith, subst}
use Rattle.ih_tables.specs.Sizes.{person_count}
use Rattle.ih_links.specs.Lists.{list_of, AreNodes}
use Rattle.ih_plan.specs.Presence.{workload_of}
use Rattle.ih_links.proofs.Walks.{walk-inside, walk-below, walk-shrinks}
use Rattle.ih_nurses.proofs.WalkLemmas.{sum-begins, sum-goes_on, sum-fits, sum-ends, sum-most}
use Rattle.ih_nurses.proofs.rooms.workload_in.Goals as goal
use Rattle.ih_plan.proofs.BillBounds.{few-persons}

pub loop-at-init : goal.loop-at-init
loop-at-init c =
    sum-begins (person_count c.args.inst.now.draft) 100000 (workload_of c.args.inst.now.draft c.args.plan.now c.args.shift.0) (list_of c.args.persons.now c.args.room.0) c.first-at.result
    (subst (λ n. AreNodes n (list_of c.args.persons.now c.args.room.0)) c.requires.persons c.first-at.ensures.nodes) c.first-at.ensures.first

pub care_need_of-asked-requires-clause-person : goal.care_need_of-asked-requires-clause-person
care_need_of-asked-requires-clause-person c = walk-below c.loop-at.invariant.walk c.in-Some.is

pub overflow_add-sum : goal.overflow_add-sum
overflow_add-sum c = omega
    (arith, sum-fits c.loop-at.invariant c.in-Some.is c.care_need_of-asked.result.workload c.care_need_of-asked.ensures.workload_bound, few-persons c.args.inst.now.draft c.args.inst.now.valid)

pub next-at-requires : goal.next-at-requires
next-at-requires c = let below = walk-below c.loop-at.invariant.walk c.in-Some.is in record { node = rw c.requires.persons below }

pub loop-at-smaller : goal.loop-at-smaller
loop-at-smaller c = walk-shrinks c.loop-at.invariant.walk c.in-Some.is (c.next-at.ensures.linked c.args.room.0 (walk-inside c.loop-at.invariant.walk c.in-Some.is))

pub loop-at-preserved : goal.loop-at-preserved
loop-at-preserved c =
    sum-goes_on c.loop-at.invariant c.in-Some.is (c.next-at.ensures.linked c.args.room.0 (walk-inside c.loop-at.invariant.walk c.in-Some.is))
    c.care_need_of-asked.result.workload c.care_need_of-asked.ensures.workload c.care_need_of-asked.ensures.workload_bound

pub returns-clause-sum : goal.returns-clause-sum
returns-clause-sum c = sum-ends c.loop-at.invariant c.in_default.is

pub returns-clause-bound : goal.returns-clause-bound
returns-clause-bound c = omega (arith, sum-most c.loop-at.invariant, few-persons c.args.inst.now.draft c.args.inst.now.valid)
