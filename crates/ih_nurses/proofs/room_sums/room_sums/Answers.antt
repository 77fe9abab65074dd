use Rattle.std.proofs.Common.{◌≤◌, ◌∙◌, ap, arith, subst, [], ◌∷◌, Option}
use Rattle.std.specs.Prelude.{option_map}
use Rattle.ih_tables.specs.declared.ids.NurseNo.{NurseNo}
use Rattle.ih_links.specs.Lists.{list_of, AreNodes}
use Rattle.ih_plan.specs.Costs.{skill_missing}
use Rattle.ih_nurses.proofs.RoomSumLemmas.{lack-all, room-begins, sum-small}
use Rattle.ih_links.proofs.Walks.{walk-inside, walk-below, walk-shrinks}
use Rattle.ih_nurses.proofs.WalkLemmas.{sum-goes_on, sum-ends, sum-most}
use Rattle.ih_nurses.proofs.room_sums.room_sums.Goals as goal
use Rattle.ih_plan.proofs.BillBounds.{few-persons}

pub loop-at-init : goal.loop-at-init
loop-at-init c =
    room-begins c.args.inst.now.draft c.args.plan.now c.args.counts.now c.args.shift.0 c.args.new c.args.old (list_of c.args.persons.now c.args.room.0) c.first-at.result
    (subst (λ n. AreNodes n (list_of c.args.persons.now c.args.room.0)) c.requires.persons c.first-at.ensures.nodes) c.first-at.ensures.first

pub care_need_of-asked-requires-clause-person : goal.care_need_of-asked-requires-clause-person
care_need_of-asked-requires-clause-person c = walk-below c.loop-at.invariant.work_is.walk c.in-Some.is

pub has_just-come-requires-clause-person : goal.has_just-come-requires-clause-person
has_just-come-requires-clause-person c = walk-below c.loop-at.invariant.work_is.walk c.in-Some.is

pub has_just-gone-requires-clause-person : goal.has_just-gone-requires-clause-person
has_just-gone-requires-clause-person c = walk-below c.loop-at.invariant.work_is.walk c.in-Some.is

pub overflow_add-work : goal.overflow_add-work
overflow_add-work c =
    omega (
      arith,
      sum-small c.args.inst.now.draft c.args.inst.now.valid c.loop-at.invariant.work_is c.in-Some.is (omega arith)
          c.care_need_of-asked.result.workload c.care_need_of-asked.ensures.workload_bound,
    )

pub overflow_add-new_missing : goal.overflow_add-new_missing
overflow_add-new_missing c =
    let small : c.saturating_sub-new_missing.result ≤ 1000 = omega (arith, c.saturating_sub-new_missing.ensures, c.care_need_of-asked.ensures.skill_bound) in
    omega (arith, sum-small c.args.inst.now.draft c.args.inst.now.valid c.loop-at.invariant.new_is c.in-Some.is (omega arith) c.saturating_sub-new_missing.result small)

pub overflow_add-old_missing : goal.overflow_add-old_missing
overflow_add-old_missing c =
    let small : c.saturating_sub-old_missing.result ≤ 1000 = omega (arith, c.saturating_sub-old_missing.ensures, c.care_need_of-asked.ensures.skill_bound) in
    omega (arith, sum-small c.args.inst.now.draft c.args.inst.now.valid c.loop-at.invariant.old_is c.in-Some.is (omega arith) c.saturating_sub-old_missing.result small)

pub overflow_add-come : goal.overflow_add-come
overflow_add-come c =
    omega (arith, sum-small c.args.inst.now.draft c.args.inst.now.valid c.loop-at.invariant.come_is c.in-Some.is (omega arith) c.has_just-come.result c.has_just-come.ensures.bound)

pub overflow_add-gone : goal.overflow_add-gone
overflow_add-gone c =
    omega (arith, sum-small c.args.inst.now.draft c.args.inst.now.valid c.loop-at.invariant.gone_is c.in-Some.is (omega arith) c.has_just-gone.result c.has_just-gone.ensures.bound)

pub next-at-requires : goal.next-at-requires
next-at-requires c = let below = walk-below c.loop-at.invariant.work_is.walk c.in-Some.is in record { node = rw c.requires.persons below }

pub loop-at-smaller : goal.loop-at-smaller
loop-at-smaller c =
    let walk = c.loop-at.invariant.work_is in
    walk-shrinks walk.walk c.in-Some.is (c.next-at.ensures.linked c.args.room.0 (walk-inside walk.walk c.in-Some.is))

pub loop-at-preserved : goal.loop-at-preserved
loop-at-preserved c =
    let step = c.next-at.ensures.linked c.args.room.0 (walk-inside c.loop-at.invariant.work_is.walk c.in-Some.is) in
    let missing = λ (n : Option NurseNo). ap (λ s. skill_missing c.args.inst.now.draft (option_map (λ (a : NurseNo). a.0) n) (s ∷ [])) c.care_need_of-asked.ensures.skill in
    record {
      work_is = sum-goes_on c.loop-at.invariant.work_is c.in-Some.is step c.care_need_of-asked.result.workload c.care_need_of-asked.ensures.workload c.care_need_of-asked.ensures.workload_bound;
      new_is = sum-goes_on c.loop-at.invariant.new_is c.in-Some.is step c.saturating_sub-new_missing.result
          (c.saturating_sub-new_missing.ensures ∙ (c.level_of-new_level.ensures c.care_need_of-asked.result.skill c.care_need_of-asked.ensures.skill_bound ∙ missing c.args.new))
          (omega (arith, c.saturating_sub-new_missing.ensures, c.care_need_of-asked.ensures.skill_bound));
      old_is = sum-goes_on c.loop-at.invariant.old_is c.in-Some.is step c.saturating_sub-old_missing.result
          (c.saturating_sub-old_missing.ensures ∙ (c.level_of-old_level.ensures c.care_need_of-asked.result.skill c.care_need_of-asked.ensures.skill_bound ∙ missing c.args.old))
          (omega (arith, c.saturating_sub-old_missing.ensures, c.care_need_of-asked.ensures.skill_bound));
      come_is = sum-goes_on c.loop-at.invariant.come_is c.in-Some.is step c.has_just-come.result c.has_just-come.ensures.value c.has_just-come.ensures.bound;
      gone_is = sum-goes_on c.loop-at.invariant.gone_is c.in-Some.is step c.has_just-gone.result c.has_just-gone.ensures.value c.has_just-gone.ensures.bound;
    }

pub returns-clause-work : goal.returns-clause-work
returns-clause-work c = sum-ends c.loop-at.invariant.work_is c.in_default.is

pub returns-clause-new_missing : goal.returns-clause-new_missing
returns-clause-new_missing c =
    sum-ends c.loop-at.invariant.new_is c.in_default.is
    ∙ lack-all c.args.inst.now.draft c.args.plan.now c.args.shift.0 c.args.new (list_of c.args.persons.now c.args.room.0)

pub returns-clause-old_missing : goal.returns-clause-old_missing
returns-clause-old_missing c =
    sum-ends c.loop-at.invariant.old_is c.in_default.is
    ∙ lack-all c.args.inst.now.draft c.args.plan.now c.args.shift.0 c.args.old (list_of c.args.persons.now c.args.room.0)

pub returns-clause-come : goal.returns-clause-come
returns-clause-come c = sum-ends c.loop-at.invariant.come_is c.in_default.is

pub returns-clause-gone : goal.returns-clause-gone
returns-clause-gone c = sum-ends c.loop-at.invariant.gone_is c.in_default.is

pub returns-clause-bound : goal.returns-clause-bound
returns-clause-bound c = omega (arith, sum-most c.loop-at.invariant.work_is, few-persons c.args.inst.now.draft c.args.inst.now.valid)

pub returns-clause-nodes : goal.returns-clause-nodes
returns-clause-nodes c = c.loop-at.invariant.work_is.walk.known
