-- What a ledger tells of the timetable for which it stands.
use Rattle.std.proofs.Common.{◌≡◌, ℕ, ◌<◌, refl, sym, ◌∙◌, List}
use Rattle.ih_tables.specs.declared.drafts.Draft.{Draft}
use Rattle.ih_tables.specs.declared.ids.RoomNo.{RoomNo}
use Rattle.ih_tables.specs.declared.ids.Day.{Day}
use Rattle.ih_tables.specs.declared.cells.Cell.TheVariants.{RoomDay}
use Rattle.ih_tables.specs.Sizes.{person_count, room_count}
use Rattle.ih_plan.specs.Timetable.{Timetable}
use Rattle.ih_plan.specs.Presence.{is_present, present}
use Rattle.ih_plan.specs.Cells.{part_at, part_of, content_of}
use Rattle.ih_plan.specs.Present.{ArePresent}
use Rattle.ih_plan.proofs.Whereabouts.{person-known}
use Rattle.ih_links.specs.Lists.{has, IsOnce}
use Rattle.ih_roomdays.specs.declared.room_lists.RoomLists.{RoomLists}
use Rattle.ih_roomdays.specs.Profiles.{ArePersons}
use Rattle.ih_roomdays.specs.RoomLists.{persons_at}
use Rattle.ih_roomdays.specs.Parts.{room_day_part, room_counts}
use Rattle.ih_roomdays.specs.Ledger.{IsLedgerOf}
use Rattle.ih_roomdays.proofs.Orders.{AreAlike, length-alike, spread-alike, genders-alike}
use Rattle.ih_roomdays.proofs.People.{has-is_listed, once-distinct, has-passing, once-passing}

pub has-present : (I : Draft) (P : Timetable) (r d x : ℕ) → has x (present I P r d) ≡ is_present I P r d x
unfolding present
has-present I P r d x = has-passing (person_count I) x (is_present I P r d) (person-known I P r d x)

present-once : (I : Draft) (P : Timetable) (r d : ℕ) → IsOnce (present I P r d)
unfolding present
present-once I P r d = once-passing (person_count I) (is_present I P r d)

-- a list of those who are present, in any order, gives the part of the room and the day
pub part-alike : (I : Draft) (P : Timetable) (r : RoomNo) (d : Day) (xs : List ℕ) → IsOnce xs → AreAlike xs (present I P r.0 d.0)
    → room_day_part (room_counts I r.0 xs) ≡ part_at I P (RoomDay r d)
unfolding part_of content_of
part-alike I P r d xs once alike =
    let mixes = genders-alike I xs (present I P r.0 d.0) alike in
    let counts = length-alike xs (present I P r.0 d.0) once (present-once I P r.0 d.0) alike in
    let spreads = spread-alike I xs (present I P r.0 d.0) alike in
    rw (mixes, counts, spreads) refl

module _ (I : Draft) (P : Timetable) (v : RoomLists) (stands : IsLedgerOf I P v) where
  within : (d : ℕ) → d < I.days → d < v.days
  within d below = rw stands.days below

  pub tells : ArePresent I P v.rooms v.days (persons_at v)
  tells = record {
    rooms_are = stands.rooms;
    days_are = stands.days;
    once = λ r d room day. once-distinct (persons_at v r d) (stands.rows.once r d day);
    each = λ r d x room day. sym (has-is_listed x (persons_at v r d)) ∙ stands.each r d x (rw (← stands.days) day);
  }

  alike : (r d : ℕ) → d < I.days → AreAlike (persons_at v r d) (present I P r d)
  alike r d day x = stands.each r d x day ∙ sym (has-present I P r d x)

  -- a room and a day of the instance are the ledger's
  pub place-known : (r : RoomNo) (d : Day) → r.0 < room_count I → d.0 < I.days → (r.0 < v.rooms) × (d.0 < v.days)
  place-known r d room day = (rw stands.rooms room, within d.0 day)

  -- who is in a room is a person of the instance
  pub persons-known : (r d : ℕ) → d < v.days → ArePersons I (persons_at v r d)
  persons-known r d day x there = rw (← stands.persons) (stands.rows.known r d x day there)

  -- the part of a room and a day is that of its persons, in the ledger's order
  pub cell-part : (r : RoomNo) (d : Day) → d.0 < I.days → room_day_part (room_counts I r.0 (persons_at v r.0 d.0)) ≡ part_at I P (RoomDay r d)
  cell-part r d day = part-alike I P r d (persons_at v r.0 d.0) (stands.rows.once r.0 d.0 (within d.0 day)) (alike r.0 d.0 day)
