-- The bill and the report of the smaller example with its one nurse in its one room, computed.
use Rattle.std.proofs.Common.{◌≡◌, refl}
use Rattle.std.specs.Prelude.{codes}
use Rattle.std.specs.Fmt.{digits}
use Rattle.ih_plan.specs.Timetable.{Timetable, empty}
use Rattle.ih_plan.specs.Expand.{after}
use Rattle.ih_plan.specs.BillOf.{bill_of}
use Rattle.ih_plan.proofs.ExampleWards.{one_room, bill9, weights}
use Rattle.ih_plan.proofs.MoveExamples.{moves_on_literals, nurse_run}
use Rattle.ih_validate.specs.Report.{report, lines_below}

abbrev nursed : Timetable
nursed = after one_room (empty one_room) (nurse_run 0 0 0 5)

pub nursed_bill : bill_of one_room nursed ≡ bill9 0 0 0 0 0 0 0 0 0 0 1 1 0 0 0 0 0
unfolding moves_on_literals
nursed_bill = refl

pub nursed_report : report weights (bill_of one_room nursed)
    ≡ codes "V1 0\nV2 0\nV3 0\nV4 0\nV5 0\nV6 0\nV7 0\nV8 0\nV9 0\nS1 0 x 5 = 0\nS2 1 x 10 = 10\nS3 1 x 2 = 2\nS4 0 x 1 = 0\nS5 0 x 30 = 0\nS6 0 x 7 = 0\nS7 0 x 4 = 0\nS8 0 x 100 = 0\ncost 12\n"
unfolding moves_on_literals digits report lines_below
nursed_report = refl
