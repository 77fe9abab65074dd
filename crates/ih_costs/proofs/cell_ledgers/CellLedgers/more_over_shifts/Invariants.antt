use Rattle.ih_costs.specs.CellLedgers.{timetable_of}
use Rattle.ih_costs.proofs.DayDeltas.{AreShiftsTold}
use Rattle.ih_costs.proofs.cell_ledgers.CellLedgers.more_over_shifts.Given as goal

-- the shifts before k are told
abbrev pub invariant-loop-k : goal.invariant-loop-k
invariant-loop-k l = AreShiftsTold l.inst.draft (timetable_of l.self) l.fn.trial.patient l.fn.trial.at l.k l.uncovered l.missing_skill l.overload
