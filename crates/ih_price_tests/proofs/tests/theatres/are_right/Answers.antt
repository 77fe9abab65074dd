use Rattle.ih_theatres.specs.Ledger.{IsLedgerOf}
use Rattle.ih_price_tests.proofs.TwoStays.{first-in, has-left, may-join, may-leave}
use Rattle.ih_price_tests.proofs.tests.theatres.are_right.Goals as goal

pub theatre_bill-used-requires-clause-stands : goal.theatre_bill-used-requires-clause-stands
theatre_bill-used-requires-clause-stands c = first-in (IsLedgerOf c.args.inst.now.draft) c.args.inst.now.draft c.first_day-here.result c.first_day-beside.result _ _ c.requires.new c.enter.ensures

pub surgeon_bill-alone-requires-clause-stands : goal.surgeon_bill-alone-requires-clause-stands
surgeon_bill-alone-requires-clause-stands c = first-in (IsLedgerOf c.args.inst.now.draft) c.args.inst.now.draft c.first_day-here.result c.first_day-beside.result _ _ c.requires.new c.enter.ensures

pub enter-requires-2-clause-stands : goal.enter-requires-2-clause-stands
enter-requires-2-clause-stands c = may-join (IsLedgerOf c.args.inst.now.draft) c.args.inst.now.draft c.first_day-here.result c.first_day-beside.result _ _ c.requires.new c.enter.ensures

pub leave-requires-clause-stands : goal.leave-requires-clause-stands
leave-requires-clause-stands c = may-leave (IsLedgerOf c.args.inst.now.draft) c.args.inst.now.draft c.first_day-here.result c.first_day-beside.result _ _ _ c.requires.two.patients c.requires.new c.enter.ensures c.enter-2.ensures

pub theatre_bill-closed-requires-clause-stands : goal.theatre_bill-closed-requires-clause-stands
theatre_bill-closed-requires-clause-stands c =
    has-left (IsLedgerOf c.args.inst.now.draft) c.args.inst.now.draft c.first_day-here.result c.first_day-beside.result _ _ _ _ c.requires.two.patients c.requires.new c.enter.ensures c.enter-2.ensures c.leave.ensures

pub theatre_bill-other-requires-clause-stands : goal.theatre_bill-other-requires-clause-stands
theatre_bill-other-requires-clause-stands c =
    has-left (IsLedgerOf c.args.inst.now.draft) c.args.inst.now.draft c.first_day-here.result c.first_day-beside.result _ _ _ _ c.requires.two.patients c.requires.new c.enter.ensures c.enter-2.ensures c.leave.ensures
