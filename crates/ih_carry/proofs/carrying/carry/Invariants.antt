use Rattle.ih_tables.specs.Sizes.{patient_count}
use Rattle.ih_plan.specs.Timetable.{IsPlanOf}
use Rattle.ih_carry.specs.Handovers.{HasNurses, HasStays, handover_of}
use Rattle.ih_carry.proofs.carrying.carry.Given as goal

abbrev pub invariant-loop-r : goal.invariant-loop-r
invariant-loop-r l = record {
  fits : IsPlanOf l.handover.next.now.draft l.plan;
  stays : HasStays (handover_of l.handover) (patient_count l.handover.next.now.draft) l.plan;
  nurses : HasNurses (handover_of l.handover) l.r l.plan;
}
