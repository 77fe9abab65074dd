use Rattle.std.proofs.Common.{◌∙◌, ap, subst, None}
use Rattle.ih_plan.specs.declared.moves.Write.TheVariants.{SetStay}
use Rattle.ih_plan.specs.Writes.{put}
use Rattle.ih_costs.specs.CellLedgers.{AreLedgersOf, timetable_of}
use Rattle.ih_costs.proofs.UndoLemmas.{stay-twice}
use Rattle.ih_costs.proofs.StandLemmas.{kept}
use Rattle.ih_costs.proofs.cell_ledgers.CellLedgers.set_stay.Goals as goal

pub returns : goal.returns
returns c =
    let I = c.args.inst.now.draft in
    let P = timetable_of c.args.self.now in
    subst (λ Q. AreLedgersOf I Q c.bring_in.new.self)
    (ap (put (SetStay c.args.patient c.args.stay)) (kept I (put (SetStay c.args.patient None) P) c.take_out.new.self c.take_out.ensures) ∙ stay-twice P c.args.patient None c.args.stay)
    c.bring_in.ensures
