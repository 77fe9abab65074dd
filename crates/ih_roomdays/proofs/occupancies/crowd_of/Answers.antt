use Rattle.ih_links.specs.Lists.{list_of}
use Rattle.ih_links.proofs.Walks.{walk-inside, walk-below, walk-shrinks, with-begins, with-goes_on}
use Rattle.ih_roomdays.proofs.Tallies.{crowd-none}
use Rattle.ih_roomdays.proofs.Tours.{tour-small}
use Rattle.ih_roomdays.proofs.occupancies.crowd_of.Goals as goal

pub loop-at-init : goal.loop-at-init
loop-at-init c =
    rw c.first-at.ensures.first (with-begins c.args.lists.now.nodes (list_of c.args.lists.now c.args.room) c.first-at.ensures.nodes (crowd-none c.args.profiles.now))

pub of-requires-clause-person : goal.of-requires-clause-person
of-requires-clause-person c = rw (← c.requires.persons) (walk-below c.loop-at.invariant.walk c.in-Some.is)

pub with-crowd-requires-clause-small : goal.with-crowd-requires-clause-small
with-crowd-requires-clause-small c = tour-small c.loop-at.invariant c.requires.profiles c.requires.few

pub loop-at-smaller : goal.loop-at-smaller
loop-at-smaller c = walk-shrinks c.loop-at.invariant.walk c.in-Some.is (c.next-at.ensures.linked c.args.room (walk-inside c.loop-at.invariant.walk c.in-Some.is))

pub loop-at-preserved : goal.loop-at-preserved
loop-at-preserved c =
    with-goes_on c.loop-at.invariant c.in-Some.is
    (c.next-at.ensures.linked c.args.room (walk-inside c.loop-at.invariant.walk c.in-Some.is))
    (λ ps kept. c.with-crowd.ensures c.args.profiles.now ps _ c.of.ensures.value kept)
