use Rattle.std.proofs.Common.{◌≡◌, ◌∙◌, arith, sym, ap, drop}
use Rattle.ih_links.specs.Lists.{first_of, list_of}
use Rattle.ih_roomdays.proofs.Places.{met-inside, step-on, step-past, told-person, told-someone}
use Rattle.ih_roomdays.proofs.room_days.RoomDaysMembers.member.Goals.{in-Some, in-None}
use Rattle.ih_roomdays.proofs.room_days.RoomDaysMembers.member.Goals as goal

pub next-at-requires : goal.next-at-requires
next-at-requires c = record {
  node = c.loop.invariant.known.below c.in-Some.x (met-inside (list_of c.index-day.result.now c.args.room.0) c.loop.counter c.in-Some.x (sym c.loop.invariant.at ∙ c.in-Some.is));
}

pub loop-preserved : goal.loop-preserved
loop-preserved c =
    let xs = list_of c.index-day.result.now c.args.room.0 in
    record {
      known = c.loop.invariant.known;
      at = elim c.match-at.branch [
        | in-Some w ↦
            let here = sym c.loop.invariant.at ∙ w.in-Some.is in
            w.at-is ∙ (w.next-at.ensures.linked c.args.room.0 (met-inside xs c.loop.counter w.in-Some.x here) ∙ step-on xs c.loop.counter w.in-Some.x c.loop.invariant.known.once here)
        | in-None w ↦ w.at-is ∙ step-past xs c.loop.counter (sym c.loop.invariant.at ∙ w.in-None.is)
      ];
    }

pub returns-in-None-at : goal.returns-in-None-at
returns-in-None-at c =
    let day = c.index-day.result.now in
    let last : c.loop.counter ≡ c.args.index = omega arith in
    absurd (told-someone c.self.inside.rows c.args.self.now c.args.room.0 c.args.day_no.0 c.args.index day c.self.view_is c.self.invariant c.requires.day c.index-day.ensures c.requires.place
    (ap (λ k. first_of (drop k (list_of day c.args.room.0))) (sym last) ∙ (sym c.loop.invariant.at ∙ c.in-None-at.is)))

pub returns-in-Some-at : goal.returns-in-Some-at
returns-in-Some-at c =
    let day = c.index-day.result.now in
    let last : c.loop.counter ≡ c.args.index = omega arith in
    told-person c.self.inside.rows c.args.self.now c.args.room.0 c.args.day_no.0 c.args.index day c.self.view_is c.self.invariant c.requires.day c.index-day.ensures c.in-Some-at.x
    (ap (λ k. first_of (drop k (list_of day c.args.room.0))) (sym last) ∙ (sym c.loop.invariant.at ∙ c.in-Some-at.is))
