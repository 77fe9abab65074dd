use Rattle.std.proofs.Common.{◌∙◌, sym, subst}
use Rattle.ih_roomdays.specs.Occupancy.{IsOccupancy, IsCrowd}
use Rattle.ih_roomdays.specs.RoomLists.{persons_at}
use Rattle.ih_roomdays.proofs.OtherPersons.{own-part, rest-all}
use Rattle.ih_roomdays.proofs.People.{crowd-read}
use Rattle.ih_roomdays.proofs.changes.others.Goals as goal

pub without-requires-clause-genders : goal.without-requires-clause-genders
without-requires-clause-genders c =
    let v = c.args.rows.now in
    let is = crowd-read v c.args.room.0 c.args.day.0 c.index-crowd.result.now c.requires.rows c.requires.room c.requires.day c.index-crowd.ensures in
    rw is ((own-part v c.requires.rows c.args.room.0 c.args.day.0 c.args.person c.requires.day (sym c.requires.there ∙ c.if-there.true) c.args.who c.requires.profile).0)

pub without-requires-clause-squares : goal.without-requires-clause-squares
without-requires-clause-squares c =
    let v = c.args.rows.now in
    let is = crowd-read v c.args.room.0 c.args.day.0 c.index-crowd.result.now c.requires.rows c.requires.room c.requires.day c.index-crowd.ensures in
    rw is ((own-part v c.requires.rows c.args.room.0 c.args.day.0 c.args.person c.requires.day (sym c.requires.there ∙ c.if-there.true) c.args.who c.requires.profile).1)

pub returns-then-there : goal.returns-then-there
returns-then-there c =
    let v = c.args.rows.now in
    let is = crowd-read v c.args.room.0 c.args.day.0 c.index-crowd.result.now c.requires.rows c.requires.room c.requires.day c.index-crowd.ensures in
    c.without.ensures v.profiles (persons_at v c.args.room.0 c.args.day.0) c.args.person c.requires.profile
    (subst (IsCrowd v.profiles (persons_at v c.args.room.0 c.args.day.0)) (sym is) (c.requires.rows.kept c.args.room.0 c.args.day.0 c.requires.day))
    (c.requires.rows.once c.args.room.0 c.args.day.0 c.requires.day) (sym c.requires.there ∙ c.if-there.true)

pub returns-else-there : goal.returns-else-there
returns-else-there c =
    let v = c.args.rows.now in
    let is = crowd-read v c.args.room.0 c.args.day.0 c.index-crowd.result.now c.requires.rows c.requires.room c.requires.day c.index-crowd.ensures in
    rw (rest-all v c.requires.rows c.args.room.0 c.args.day.0 c.args.person c.requires.day (sym c.requires.there ∙ c.if-there.false))
    (subst (λ k. IsOccupancy v.profiles (persons_at v c.args.room.0 c.args.day.0) k.occupancy) (sym is) (c.requires.rows.kept c.args.room.0 c.args.day.0 c.requires.day).occupancy)
