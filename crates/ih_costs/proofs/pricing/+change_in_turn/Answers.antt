use Rattle.std.proofs.Common.{◌≡◌, ◌∷◌, [], ◌^◌, ◌∙◌, sym, ap, subst, arith}
use Rattle.std.proofs.lemmas.List.{nil_from_length}
use Rattle.ih_tables.specs.Bills.{add_bills}
use Rattle.ih_plan.specs.Writes.{put, put_all, AreWritesOf}
use Rattle.ih_plan.specs.BillOf.{change_of_bill}
use Rattle.ih_plan.proofs.BillBounds.{change-within, within-more}
use Rattle.ih_plan.proofs.PlanRanges.{put_all-plan}
use Rattle.ih_costs.specs.CellLedgers.{timetable_of}
use Rattle.ih_plan.proofs.ChangeSums.{change-then}
use Rattle.ih_costs.proofs.StandLemmas.{kept, plan-fits}
use Rattle.ih_costs.proofs.UndoLemmas.{taken-back}
use Rattle.ih_costs.proofs.pricing.+change_in_turn.Goals as goal

-- the change of the first write, and of the others behind it
pub add-requires : goal.add-requires
add-requires t c =
    let I = c.args.inst.now.draft in
    let P = timetable_of c.args.ledgers.now in
    let Q = put c.args.write.now P in
    let ws = c.in-Some.next.now ∷ c.in-Some.later.now in
    let R = put_all ws Q in
    let valid = c.args.inst.now.valid in
    let plan = plan-fits I P c.args.ledgers.now c.requires.stands in
    let made = kept I Q c.put_for_now-undo.new.ledgers c.put_for_now-undo.ensures.stands in
    let further = c.change_in_turn-further.ensures.change ∙ ap (λ T. change_of_bill I T (put_all ws T)) made in
    let writes : AreWritesOf I (c.args.write.now ∷ ws) = (c.requires.write, subst (AreWritesOf I) c.in-Some.ensures.cases.0 c.requires.writes) in
    rw (c.price_of_write-here.ensures.price, further, change-then I P Q R)
    (within-more (10 ^ 11) (10 ^ 12) (change_of_bill I P R) (omega arith) (change-within I P R valid plan (put_all-plan I P (c.args.write.now ∷ ws) plan writes)))

pub returns-in-None-clause-change : goal.returns-in-None-clause-change
returns-in-None-clause-change t c =
    let I = c.args.inst.now.draft in
    let P = timetable_of c.args.ledgers.now in
    let w = c.args.write.now in
    let none : c.args.rest.now ≡ [] = nil_from_length c.args.rest.now c.in-None.ensures.cases in
    c.price_of_write-here.ensures.price ∙ ap (λ ws. change_of_bill I P (put_all (w ∷ ws) P)) (sym none)

pub returns-in-Some-clause-stands : goal.returns-in-Some-clause-stands
returns-in-Some-clause-stands t c =
    taken-back c.args.write.now c.put_for_now-undo.ensures.stands c.change_in_turn-further.ensures.stands c.put_for_now-undo.ensures.undo c.put.ensures

pub returns-in-Some-clause-change : goal.returns-in-Some-clause-change
returns-in-Some-clause-change t c =
    let I = c.args.inst.now.draft in
    let P = timetable_of c.args.ledgers.now in
    let w = c.args.write.now in
    let ws = c.in-Some.next.now ∷ c.in-Some.later.now in
    let made = kept I (put w P) c.put_for_now-undo.new.ledgers c.put_for_now-undo.ensures.stands in
    let further = c.change_in_turn-further.ensures.change ∙ ap (λ T. change_of_bill I T (put_all ws T)) made in
    c.add.ensures
    ∙ (ap (λ b. add_bills b c.change_in_turn-further.result) c.price_of_write-here.ensures.price
    ∙ (ap (add_bills (change_of_bill I P (put w P))) further
    ∙ (change-then I P (put w P) (put_all ws (put w P))
    ∙ ap (λ ws. change_of_bill I P (put_all (w ∷ ws) P)) (sym c.in-Some.ensures.cases.0))))
