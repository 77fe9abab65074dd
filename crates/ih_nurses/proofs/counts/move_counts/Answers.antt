use Rattle.std.proofs.Common.{subst}
use Rattle.ih_links.specs.Lists.{list_of, AreNodes}
use Rattle.ih_nurses.proofs.CountWalks.{moved-begins, moved-inside, moved-below, moved-shrinks, moved-enough, moved-fits, moved-goes_on, moved-ends}
use Rattle.ih_nurses.proofs.counts.move_counts.Goals as goal

pub loop-at-init : goal.loop-at-init
loop-at-init c =
    let nodes = subst (λ n. AreNodes n (list_of c.args.persons.now c.args.room.0)) c.requires.persons c.first-at.ensures.nodes in
    moved-begins c.args.inst.now.draft c.args.plan.now c.args.room c.args.shift c.args.new c.requires.plan c.requires.room c.requires.shift (list_of c.args.persons.now c.args.room.0) c.requires.there
    c.args.counts.now c.first-at.result nodes c.first-at.ensures.first c.requires.counts

pub take_count-requires-clause-person : goal.take_count-requires-clause-person
take_count-requires-clause-person c = moved-below _ _ c.args.room c.args.shift c.args.new c.requires.plan c.requires.room c.requires.shift _ c.requires.there c.loop-at.invariant c.in-Some.is

pub take_count-requires-clause-enough : goal.take_count-requires-clause-enough
take_count-requires-clause-enough c = moved-enough _ _ c.args.room c.args.shift c.args.new c.requires.plan c.requires.room c.requires.shift _ c.requires.there c.loop-at.invariant c.in-Some.is
    c.nurse_at-old.result c.nurse_at-old.ensures.choice

pub add_count-requires-clause-person : goal.add_count-requires-clause-person
add_count-requires-clause-person c = moved-below _ _ c.args.room c.args.shift c.args.new c.requires.plan c.requires.room c.requires.shift _ c.requires.there c.loop-at.invariant c.in-Some.is

pub add_count-requires-clause-fits : goal.add_count-requires-clause-fits
add_count-requires-clause-fits c = moved-fits _ _ c.args.room c.args.shift c.args.new c.requires.plan c.requires.room c.requires.shift _ c.requires.there c.loop-at.invariant c.in-Some.is
    c.nurse_at-old.result c.nurse_at-old.ensures.choice c.take_count.new.counts c.take_count.ensures.len c.take_count.ensures.each c.args.inst.now.valid

pub next-at-requires : goal.next-at-requires
next-at-requires c =
    let below = moved-below _ _ c.args.room c.args.shift c.args.new c.requires.plan c.requires.room c.requires.shift _ c.requires.there c.loop-at.invariant c.in-Some.is in
    record { node = rw c.requires.persons below }

pub loop-at-smaller : goal.loop-at-smaller
loop-at-smaller c =
    let inside = moved-inside _ _ c.args.room c.args.shift c.args.new c.requires.plan c.requires.room c.requires.shift _ c.requires.there c.loop-at.invariant c.in-Some.is in
    moved-shrinks _ _ c.args.room c.args.shift c.args.new c.requires.plan c.requires.room c.requires.shift _ c.requires.there c.loop-at.invariant c.in-Some.is
    c.next-at.result (c.next-at.ensures.linked c.args.room.0 inside)

pub loop-at-preserved : goal.loop-at-preserved
loop-at-preserved c =
    let inside = moved-inside _ _ c.args.room c.args.shift c.args.new c.requires.plan c.requires.room c.requires.shift _ c.requires.there c.loop-at.invariant c.in-Some.is in
    moved-goes_on _ _ c.args.room c.args.shift c.args.new c.requires.plan c.requires.room c.requires.shift _ c.requires.there c.loop-at.invariant c.in-Some.is
    c.nurse_at-old.result c.nurse_at-old.ensures.choice c.take_count.new.counts c.take_count.ensures.len c.take_count.ensures.each
    c.add_count.new.counts c.add_count.ensures.len c.add_count.ensures.each c.next-at.result (c.next-at.ensures.linked c.args.room.0 inside)

pub returns : goal.returns
returns c = moved-ends _ _ c.args.room c.args.shift c.args.new c.requires.plan c.requires.room c.requires.shift (list_of c.args.persons.now c.args.room.0) c.requires.there
    c.loop-at.counts c.loop-at.at c.loop-at.invariant c.in_default.is
