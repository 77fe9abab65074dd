use Rattle.std.proofs.Common.{◌≡◌, drop}
use Rattle.ih_plan.specs.Writes.{put_all, AreWritesOf}
use Rattle.ih_costs.specs.CellLedgers.{AreLedgers, timetable_of}
use Rattle.ih_costs.proofs.pricing.put_all.Given as goal

-- the writes that are left lead to where all lead
abbrev pub invariant-loop-w : goal.invariant-loop-w
invariant-loop-w l = record {
  stands : AreLedgers l.inst.draft l.ledgers;
  left : AreWritesOf l.inst.draft (drop l.w-index l.writes);
  made : put_all (drop l.w-index l.writes) (timetable_of l.ledgers) ≡ put_all l.writes (timetable_of l.fn.ledgers);
}
