use Rattle.ih_costs.specs.CellLedgers.{timetable_of}
use Rattle.ih_costs.proofs.DayDeltas.{AreDaysTold}
use Rattle.ih_costs.proofs.cell_ledgers.CellLedgers.more_over_days.Given as goal

-- the days before d are told
abbrev pub invariant-loop-d : goal.invariant-loop-d
invariant-loop-d l = AreDaysTold l.inst.draft (timetable_of l.self) l.fn.trial.patient l.fn.trial.at l.d l.mixed l.crowded l.ages
