use Rattle.std.proofs.Common.{◌≡◌, arith, subst}
use Rattle.ih_tables.specs.Sizes.{occupant_count}
use Rattle.ih_tables.specs.Valid.{IsOccupant}
use Rattle.ih_plan.proofs.Overtime.{from-all}
use Rattle.ih_roomdays.proofs.Occupants.{IsFilled, filled-none, filled-more, filled-all}
use Rattle.ih_roomdays.proofs.room_days.RoomDays.new.Goals as goal

pub loop-o-init : goal.loop-o-init
loop-o-init c = filled-none c.args.inst.now.draft c.in_ok-rows.rows c.in_ok-profiles.profiles c.in_ok-profiles.ensures (rw (c.rooms.ensures, c.days.ensures, c.persons.ensures) at c.in_ok-rows.ensures)

pub enter-requires-clause-span : goal.enter-requires-clause-span
enter-requires-clause-span c =
    let I = c.args.inst.now.draft in
    let occupant = from-all (IsOccupant I) I.occupants c.loop-o.o c.occupant-occupant.result.now c.args.inst.now.valid.each_occupant c.occupant-occupant.ensures in
    let filled = c.loop-o.invariant in
    record {
      rows = filled.rows;
      room_below = rw filled.rooms occupant.room;
      person = omega (arith, filled.persons);
      order = omega arith;
      within = omega (arith, filled.days);
    }

pub loop-o-preserved : goal.loop-o-preserved
loop-o-preserved c =
    filled-more c.args.inst.now.draft c.loop-o.rows c.enter.new.self c.loop-o.o c.occupant-occupant.result.now c.loop-o.invariant c.occupant-occupant.ensures
    (rw (c.patients-patients.ensures, c.end_from-to.ensures.value) at c.enter.ensures)

pub returns : goal.returns
returns c =
    let I = c.args.inst.now.draft in
    let last : c.loop-o.o ≡ occupant_count I = omega (arith, c.occupants-o-end.ensures, c.loop-o.auto.o-end, c.loop-o-test.false) in
    filled-all I c.loop-o.rows (subst (IsFilled I c.loop-o.rows) last c.loop-o.invariant)
