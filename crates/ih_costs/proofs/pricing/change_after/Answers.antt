use Rattle.std.proofs.Common.{◌≡◌, [], ◌∙◌, sym, ap}
use Rattle.std.proofs.lemmas.List.{nil_from_length}
use Rattle.ih_plan.specs.Writes.{put_all}
use Rattle.ih_plan.specs.BillOf.{change_of_bill}
use Rattle.ih_costs.specs.CellLedgers.{timetable_of}
use Rattle.ih_plan.proofs.ChangeSums.{change-same}
use Rattle.ih_costs.proofs.pricing.change_after.Goals as goal

pub returns-in-None-clause-change : goal.returns-in-None-clause-change
returns-in-None-clause-change c =
    let I = c.args.inst.now.draft in
    let P = timetable_of c.args.ledgers.now in
    let none : c.args.writes.now ≡ [] = nil_from_length c.args.writes.now c.in-None.ensures.cases in
    c.zero.ensures ∙ (change-same I P ∙ ap (λ ws. change_of_bill I P (put_all ws P)) (sym none))
