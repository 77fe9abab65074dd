use Rattle.ih_costs.specs.CellLedgers.{timetable_of}
use Rattle.ih_costs.proofs.StandLemmas.{plan-fits}
use Rattle.ih_costs.proofs.UndoLemmas.{undo-write}
use Rattle.ih_costs.proofs.pricing.put_for_now.Goals as goal

pub returns-clause-fits : goal.returns-clause-fits
returns-clause-fits c =
    let I = c.args.inst.now.draft in
    let P = timetable_of c.args.ledgers.now in
    rw (c.undo_of-undo.ensures, c.plan.ensures) (undo-write I P c.args.write.now (plan-fits I P c.args.ledgers.now c.requires.stands) c.requires.write)
