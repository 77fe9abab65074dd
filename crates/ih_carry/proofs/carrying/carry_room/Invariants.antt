use Rattle.std.proofs.Common.{◌≡◌}
use Rattle.ih_plan.specs.Timetable.{IsPlanOf}
use Rattle.ih_carry.specs.Handovers.{HasNurses, handover_of}
use Rattle.ih_carry.proofs.CarrySteps.{HasOwn}
use Rattle.ih_carry.proofs.carrying.carry_room.Given as goal

abbrev pub invariant-loop-k : goal.invariant-loop-k
invariant-loop-k l = record {
  fits : IsPlanOf l.handover.next.now.draft l.plan;
  own : HasOwn (handover_of l.handover) l.room.0 l.k l.plan;
  nurses : HasNurses (handover_of l.handover) l.room.0 l.plan;
  stays : l.plan.stays ≡ l.initial.plan.stays;
}
