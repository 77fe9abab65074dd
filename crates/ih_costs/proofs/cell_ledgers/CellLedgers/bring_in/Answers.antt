use Rattle.std.proofs.Common.{subst}
use Rattle.ih_costs.specs.CellLedgers.{AreLedgersOf, timetable_of}
use Rattle.ih_costs.proofs.UndoLemmas.{stay-none}
use Rattle.ih_costs.proofs.cell_ledgers.CellLedgers.bring_in.Goals as goal

pub returns-in_default : goal.returns-in_default
returns-in_default c =
    rw c.in_default.is
    (subst (λ Q. AreLedgersOf c.args.inst.now.draft Q c.args.self.now) (stay-none (timetable_of c.args.self.now) c.args.patient c.requires.out) c.requires.stands)
