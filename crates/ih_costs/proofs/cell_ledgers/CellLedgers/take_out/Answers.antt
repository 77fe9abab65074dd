use Rattle.std.proofs.Common.{◌≡◌, ◌∙◌, sym, ap, subst, None}
use Rattle.ih_plan.specs.Timetable.{stay_of}
use Rattle.ih_costs.specs.CellLedgers.{AreLedgersOf, timetable_of}
use Rattle.ih_costs.proofs.UndoLemmas.{stay-none}
use Rattle.ih_costs.proofs.cell_ledgers.CellLedgers.take_out.Goals as goal

pub returns-in_default : goal.returns-in_default
returns-in_default c =
    let P = timetable_of c.args.self.now in
    let out : stay_of P c.args.patient.0 ≡ None = sym (ap (λ Q. stay_of Q c.args.patient.0) c.plan.ensures) ∙ (sym c.stay.ensures ∙ c.in_default.is) in
    subst (λ Q. AreLedgersOf c.args.inst.now.draft Q c.args.self.now) (stay-none P c.args.patient out) c.requires.stands
