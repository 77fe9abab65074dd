use Rattle.std.proofs.Common.{arith}
use Rattle.ih_roomdays.specs.Ledger.{IsLedgerOf}
use Rattle.ih_price_tests.proofs.RoomDayChanges.{room-there, day-there}
use Rattle.ih_price_tests.proofs.TwoStays.{first-in, has-left, may-join, may-leave}
use Rattle.ih_price_tests.proofs.tests.roomdays.is_right.Goals as goal

pub are_there-both-requires-clause-rooms : goal.are_there-both-requires-clause-rooms
are_there-both-requires-clause-rooms c =
    room-there c.args.inst.now.draft _ _ c.requires.two.rooms (first-in (IsLedgerOf c.args.inst.now.draft) c.args.inst.now.draft c.first_day-here.result c.first_day-beside.result _ _ c.requires.new c.enter.ensures).1

pub are_there-both-requires-clause-days : goal.are_there-both-requires-clause-days
are_there-both-requires-clause-days c =
    day-there c.args.inst.now.draft _ _ 0 c.requires.two.days (omega arith) (first-in (IsLedgerOf c.args.inst.now.draft) c.args.inst.now.draft c.first_day-here.result c.first_day-beside.result _ _ c.requires.new c.enter.ensures).1

pub count-later-requires-clause-room : goal.count-later-requires-clause-room
count-later-requires-clause-room c =
    room-there c.args.inst.now.draft _ _ c.requires.two.rooms (first-in (IsLedgerOf c.args.inst.now.draft) c.args.inst.now.draft c.first_day-here.result c.first_day-beside.result _ _ c.requires.new c.enter.ensures).1

pub count-later-requires-clause-day : goal.count-later-requires-clause-day
count-later-requires-clause-day c =
    day-there c.args.inst.now.draft _ _ 1 c.requires.two.days (omega arith) (first-in (IsLedgerOf c.args.inst.now.draft) c.args.inst.now.draft c.first_day-here.result c.first_day-beside.result _ _ c.requires.new c.enter.ensures).1

pub cell_bill-bill-requires-clause-stands : goal.cell_bill-bill-requires-clause-stands
cell_bill-bill-requires-clause-stands c =
    first-in (IsLedgerOf c.args.inst.now.draft) c.args.inst.now.draft c.first_day-here.result c.first_day-beside.result _ _ c.requires.new c.enter.ensures

pub enter-requires-2-clause-stands : goal.enter-requires-2-clause-stands
enter-requires-2-clause-stands c = may-join (IsLedgerOf c.args.inst.now.draft) c.args.inst.now.draft c.first_day-here.result c.first_day-beside.result _ _ c.requires.new c.enter.ensures

pub leave-requires-clause-stands : goal.leave-requires-clause-stands
leave-requires-clause-stands c = may-leave (IsLedgerOf c.args.inst.now.draft) c.args.inst.now.draft c.first_day-here.result c.first_day-beside.result _ _ _ c.requires.two.patients c.requires.new c.enter.ensures c.enter-2.ensures

pub are_there-other-requires-clause-rooms : goal.are_there-other-requires-clause-rooms
are_there-other-requires-clause-rooms c =
    let left = has-left (IsLedgerOf c.args.inst.now.draft) c.args.inst.now.draft c.first_day-here.result c.first_day-beside.result _ _ _ _ c.requires.two.patients c.requires.new c.enter.ensures c.enter-2.ensures c.leave.ensures in
    room-there c.args.inst.now.draft _ _ c.requires.two.rooms left.1

pub are_there-other-requires-clause-days : goal.are_there-other-requires-clause-days
are_there-other-requires-clause-days c =
    let left = has-left (IsLedgerOf c.args.inst.now.draft) c.args.inst.now.draft c.first_day-here.result c.first_day-beside.result _ _ _ _ c.requires.two.patients c.requires.new c.enter.ensures c.enter-2.ensures c.leave.ensures in
    day-there c.args.inst.now.draft _ _ 0 c.requires.two.days (omega arith) left.1
