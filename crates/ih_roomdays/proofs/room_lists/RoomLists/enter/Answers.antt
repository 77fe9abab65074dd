use Rattle.std.proofs.Common.{arith, refl, sym, ap, subst, ◌∙◌}
use Rattle.ih_roomdays.specs.Occupancy.{IsCrowd, IsSmall}
use Rattle.ih_roomdays.specs.Profiles.{profile_of}
use Rattle.ih_roomdays.specs.RoomLists.{persons_at}
use Rattle.ih_roomdays.proofs.Entries.{entered-more, free, longer-day, nowhere-yet}
use Rattle.ih_roomdays.proofs.People.{crowd-read, crowd-small, day-read}
use Rattle.ih_roomdays.proofs.Replacements.{replaced}
use Rattle.ih_roomdays.proofs.room_lists.RoomLists.enter.Goals as goal

pub push_back-requires-clause-free : goal.push_back-requires-clause-free
push_back-requires-clause-free c =
    let v = c.loop-d.self in
    let so_far = c.loop-d.invariant in
    free v so_far.rows c.args.room c.args.person c.loop-d.d (omega (arith, so_far.rooms)) (omega (arith, so_far.days)) (omega (arith, so_far.persons))
    (nowhere-yet c.args.self.now v c.args.room c.args.person c.args.from c.loop-d.d so_far (omega arith) c.requires.nowhere)
    c.index_mut.result.now c.index_mut.result.now (day-read v c.loop-d.d c.index_mut.result.now so_far.rows (omega (arith, so_far.days)) c.index_mut.ensures.value)

pub with-requires-clause-small : goal.with-requires-clause-small
with-requires-clause-small c =
    let so_far = c.loop-d.invariant in
    let is = crowd-read c.loop-d.self c.args.room c.loop-d.d c.index.result.now so_far.rows (omega (arith, so_far.rooms)) (omega (arith, so_far.days)) c.index.ensures in
    subst (λ k. IsSmall k.occupancy) (sym is) (crowd-small c.loop-d.self c.args.room c.loop-d.d so_far.rows (omega (arith, so_far.days)))

pub loop-d-preserved : goal.loop-d-preserved
loop-d-preserved c =
    let v = c.loop-d.self in
    let so_far = c.loop-d.invariant in
    let is = crowd-read v c.args.room c.loop-d.d c.index.result.now so_far.rows (omega (arith, so_far.rooms)) (omega (arith, so_far.days)) c.index.ensures in
    let was = subst (IsCrowd v.profiles (persons_at v c.args.room c.loop-d.d)) (sym is) (so_far.rows.kept c.args.room c.loop-d.d (omega (arith, so_far.days))) in
    let who = c.of-who.ensures.value ∙ ap (λ p. profile_of p c.args.person) (sym so_far.profiles) in
    let day = longer-day v so_far.rows c.args.room c.args.person c.loop-d.d (omega (arith, so_far.rooms)) (omega (arith, so_far.days)) (omega (arith, so_far.persons))
    (nowhere-yet c.args.self.now v c.args.room c.args.person c.args.from c.loop-d.d so_far (omega arith) c.requires.nowhere)
    c.index_mut.result.now c.push_back.new.self (day-read v c.loop-d.d c.index_mut.result.now so_far.rows (omega (arith, so_far.days)) c.index_mut.ensures.value)
    c.push_back.ensures.lists c.push_back.ensures.nodes in
    entered-more v _ c.args.room c.args.person c.loop-d.d
    (replaced v so_far.rows c.args.room c.loop-d.d (omega (arith, so_far.rooms)) (omega (arith, so_far.days)) _ c.push_back.new.self day _ refl _ c.with.result
    (c.with.ensures v.profiles (persons_at v c.args.room c.loop-d.d) c.args.person who was) refl)
    c.args.self.now c.args.from (omega arith) so_far
