use Rattle.ih_price_tests.proofs.tests.nurses.one_is_right.Goals as goal

pub set_care-requires-clause-stands : goal.set_care-requires-clause-stands
set_care-requires-clause-stands c = (_, c.enter.ensures _ c.requires.new)

pub room_shift_bill-night-requires-clause-stands : goal.room_shift_bill-night-requires-clause-stands
room_shift_bill-night-requires-clause-stands c = (_, c.set_care.ensures _ (c.enter.ensures _ c.requires.new))

pub room_shift_bill-early-requires-clause-stands : goal.room_shift_bill-early-requires-clause-stands
room_shift_bill-early-requires-clause-stands c = (_, c.set_care.ensures _ (c.enter.ensures _ c.requires.new))

pub care_bill-care-requires-clause-stands : goal.care_bill-care-requires-clause-stands
care_bill-care-requires-clause-stands c = (_, c.set_care.ensures _ (c.enter.ensures _ c.requires.new))
