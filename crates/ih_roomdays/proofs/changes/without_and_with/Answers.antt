use Rattle.std.proofs.Common.{[], ◌∷◌, ◌++◌, arith, true, false}
use Rattle.ih_links.specs.Lists.{without}
use Rattle.ih_roomdays.specs.RoomLists.{persons_at}
use Rattle.ih_roomdays.proofs.OtherPersons.{rest-known, with-few}
use Rattle.ih_roomdays.proofs.Tallies.{occupancy-small}
use Rattle.ih_roomdays.proofs.changes.without_and_with.Goals as goal

pub room_counts-requires-clause-small : goal.room_counts-requires-clause-small
room_counts-requires-clause-small c =
    let v = c.args.rows.now in
    occupancy-small v.persons v.profiles (without c.args.patient.0 (persons_at v c.args.room.0 c.args.day.0)) c.others-rest.result c.requires.rows.profiles c.others-rest.ensures
    (with-few v c.requires.rows c.args.room.0 c.args.day.0 c.args.patient.0 c.requires.day (omega (arith, c.requires.persons)) false)

pub with-requires-clause-small : goal.with-requires-clause-small
with-requires-clause-small c =
    let v = c.args.rows.now in
    occupancy-small v.persons v.profiles (without c.args.patient.0 (persons_at v c.args.room.0 c.args.day.0)) c.others-rest.result c.requires.rows.profiles c.others-rest.ensures
    (with-few v c.requires.rows c.args.room.0 c.args.day.0 c.args.patient.0 c.requires.day (omega (arith, c.requires.persons)) false)

pub room_counts-requires-2-clause-small : goal.room_counts-requires-2-clause-small
room_counts-requires-2-clause-small c =
    let v = c.args.rows.now in
    let rest = without c.args.patient.0 (persons_at v c.args.room.0 c.args.day.0) in
    occupancy-small v.persons v.profiles (rest ++ c.args.patient.0 ∷ []) c.with.result c.requires.rows.profiles (c.with.ensures v.profiles rest c.args.patient.0 c.of-who.ensures.value c.others-rest.ensures)
    (with-few v c.requires.rows c.args.room.0 c.args.day.0 c.args.patient.0 c.requires.day (omega (arith, c.requires.persons)) true)

pub returns-clause-without : goal.returns-clause-without
returns-clause-without c =
    let v = c.args.rows.now in
    c.room_counts.ensures v.profiles (without c.args.patient.0 (persons_at v c.args.room.0 c.args.day.0)) c.requires.profiles
    (λ x there. rw (← c.requires.persons)
    ((rest-known v c.requires.rows c.args.room.0 c.args.day.0 c.args.patient.0 c.requires.day
    (omega (arith, c.requires.persons)) false).below x there)) c.others-rest.ensures

pub returns-clause-with : goal.returns-clause-with
returns-clause-with c =
    let v = c.args.rows.now in
    let rest = without c.args.patient.0 (persons_at v c.args.room.0 c.args.day.0) in
    c.room_counts-2.ensures v.profiles (rest ++ c.args.patient.0 ∷ []) c.requires.profiles
    (λ x there. rw (← c.requires.persons) ((rest-known v c.requires.rows c.args.room.0 c.args.day.0 c.args.patient.0 c.requires.day (omega (arith, c.requires.persons)) true).below x there))
    (c.with.ensures v.profiles rest c.args.patient.0 c.of-who.ensures.value c.others-rest.ensures)
