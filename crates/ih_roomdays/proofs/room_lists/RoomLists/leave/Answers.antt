use Rattle.std.proofs.Common.{arith, refl, subst}
use Rattle.ih_roomdays.specs.Occupancy.{IsCrowd}
use Rattle.ih_roomdays.proofs.Leavings.{few-left, left-more, linked, shorter-day, there-yet}
use Rattle.ih_roomdays.proofs.People.{day-read}
use Rattle.ih_roomdays.proofs.Replacements.{replaced}
use Rattle.ih_roomdays.proofs.room_lists.RoomLists.leave.Goals as goal

pub remove-requires : goal.remove-requires
remove-requires c =
    let v = c.loop-d.self in
    let so_far = c.loop-d.invariant in
    record {
      linked = linked v c.args.room c.args.person c.loop-d.d
          (there-yet c.args.self.now v c.args.room c.args.person c.args.from c.loop-d.d so_far (omega arith) (λ r. c.requires.there r c.loop-d.d (omega arith) (omega arith)))
          c.index_mut-day.result.now (day-read v c.loop-d.d c.index_mut-day.result.now so_far.rows (omega (arith, so_far.days)) c.index_mut-day.ensures.value);
    }

pub crowd_of-requires-clause-room : goal.crowd_of-requires-clause-room
crowd_of-requires-clause-room c =
    let v = c.loop-d.self in
    let so_far = c.loop-d.invariant in
    let there = there-yet c.args.self.now v c.args.room c.args.person c.args.from c.loop-d.d so_far (omega arith) (λ r. c.requires.there r c.loop-d.d (omega arith) (omega arith)) in
    let day = shorter-day v so_far.rows c.args.room c.args.person c.loop-d.d (omega (arith, so_far.days)) there c.index_mut-day.result.now c.remove.new.self
    (day-read v c.loop-d.d c.index_mut-day.result.now so_far.rows (omega (arith, so_far.days)) c.index_mut-day.ensures.value) c.remove.ensures.lists c.remove.ensures.nodes in
    omega (arith, so_far.rooms, day.heads)

pub crowd_of-requires-clause-few : goal.crowd_of-requires-clause-few
crowd_of-requires-clause-few c =
    let v = c.loop-d.self in
    let so_far = c.loop-d.invariant in
    let there = there-yet c.args.self.now v c.args.room c.args.person c.args.from c.loop-d.d so_far (omega arith) (λ r. c.requires.there r c.loop-d.d (omega arith) (omega arith)) in
    few-left v so_far.rows c.args.room c.args.person c.loop-d.d (omega (arith, so_far.days)) there c.index_mut-day.result.now c.remove.new.self
    (day-read v c.loop-d.d c.index_mut-day.result.now so_far.rows (omega (arith, so_far.days)) c.index_mut-day.ensures.value) c.remove.ensures.lists c.remove.ensures.nodes

pub loop-d-preserved : goal.loop-d-preserved
loop-d-preserved c =
    let v = c.loop-d.self in
    let so_far = c.loop-d.invariant in
    let there = there-yet c.args.self.now v c.args.room c.args.person c.args.from c.loop-d.d so_far (omega arith) (λ r. c.requires.there r c.loop-d.d (omega arith) (omega arith)) in
    let day = shorter-day v so_far.rows c.args.room c.args.person c.loop-d.d (omega (arith, so_far.days)) there c.index_mut-day.result.now c.remove.new.self
    (day-read v c.loop-d.d c.index_mut-day.result.now so_far.rows (omega (arith, so_far.days)) c.index_mut-day.ensures.value) c.remove.ensures.lists c.remove.ensures.nodes in
    left-more v _ c.args.room c.args.person c.loop-d.d there
    (replaced v so_far.rows c.args.room c.loop-d.d (omega (arith, so_far.rooms)) (omega (arith, so_far.days)) _ c.remove.new.self day _ refl _ c.crowd_of.result
    (subst (λ xs. IsCrowd v.profiles xs c.crowd_of.result) day.here c.crowd_of.ensures) refl)
    c.args.self.now c.args.from (omega arith) so_far
