use Rattle.ih_plan.specs.Timetable.{IsPlanOf}
use Rattle.ih_carry.specs.Handovers.{HasStays, handover_of}
use Rattle.ih_carry.proofs.carrying.carry_stays.Given as goal

abbrev pub invariant-loop-p : goal.invariant-loop-p
invariant-loop-p l = record {
  fits : IsPlanOf l.handover.next.now.draft l.plan;
  stays : HasStays (handover_of l.handover) l.p l.plan;
}
