use Rattle.std.proofs.Common.{◌++◌, ◌∷◌, [], ◌∙◌, arith, ap, sym, subst, length, length-append}
use Rattle.std.specs.List.{AllZip}
use Rattle.std.proofs.lemmas.List.{append_assoc}
use Rattle.std.proofs.lemmas.Slice.Zip.{AllZip-long}
use Rattle.ih_desk.specs.Desks.{DeskSeat}
use Rattle.ih_desk.specs.Workers.{Holds}
use Rattle.ih_desk.proofs.SeatLemmas.{zip-last}
use Rattle.ih_desk.proofs.whole_search.+take_seats.Goals as goal

pub push_reserved-requires : goal.push_reserved-requires
push_reserved-requires g t c =
    let left = c.take_seats.ensures.left in
    let many = AllZip-long Holds c.pop.new.self.items left.added left.each in
    let len = ap length left.joins in
    let sum = length-append c.args.seats.now.items left.added in
    let popped = ap length c.in-Some.ensures.items in
    let one = length-append c.pop.new.self.items (c.in-Some.worker ∷ []) in
    let room = c.requires in
    let same = c.take_seats.ensures.room in
    omega (arith, many, len, sum, popped, one, room, same)

pub returns-in-Some-clause-left : goal.returns-in-Some-clause-left
returns-in-Some-clause-left g t c =
    let left = c.take_seats.ensures.left in
    let s : DeskSeat = c.into_seat.result in
    record {
      added = left.added ++ s ∷ [];
      joins = c.push_reserved.ensures.items ∙ (ap (λ ss. ss ++ s ∷ []) left.joins ∙ append_assoc c.args.seats.now.items left.added (s ∷ []));
      each = subst (λ ws. AllZip Holds ws (left.added ++ s ∷ [])) (sym c.in-Some.ensures.items) (zip-last Holds c.pop.new.self.items left.added c.in-Some.worker s left.each c.into_seat.ensures);
    }
