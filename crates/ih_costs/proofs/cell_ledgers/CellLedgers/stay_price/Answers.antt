use Rattle.std.proofs.Common.{◌≡◌, ◌∙◌, ap, sym, rules}
use Rattle.ih_tables.specs.Bills.{sub_bills}
use Rattle.ih_plan.specs.declared.moves.Write.TheVariants.{SetStay}
use Rattle.ih_plan.specs.Timetable.{stay_of}
use Rattle.ih_plan.specs.Writes.{put}
use Rattle.ih_plan.specs.BillOf.{change_of_bill}
use Rattle.ih_costs.specs.CellLedgers.{timetable_of}
use Rattle.ih_costs.specs.StayDelta.{stay_delta}
use Rattle.ih_plan.proofs.ChangeSums.{change-same}
use Rattle.ih_costs.proofs.ChangeSums.{less-within}
use Rattle.ih_costs.proofs.DeltaBills.{two-stays, stay-again}
use Rattle.ih_costs.proofs.StandLemmas.{plan-fits}
use Rattle.ih_costs.proofs.cell_ledgers.CellLedgers.stay_price.Goals as goal

pub returns-then-eq : goal.returns-then-eq
returns-then-eq c =
    let I = c.args.inst.now.draft in
    let P = timetable_of c.args.self.now in
    let old : c.stay-old.result ≡ stay_of P c.args.patient.0 = rw c.plan.ensures at c.stay-old.ensures in
    let h = c.if-eq.ensures in
    let t = c.if-eq.true in
    let same : c.args.new ≡ c.stay-old.result = search (rules, h) in
    c.zero.ensures ∙ (change-same I P ∙ ap (change_of_bill I P) (sym (ap (λ s. put (SetStay c.args.patient s) P) (same ∙ old) ∙ stay-again P c.args.patient)))

pub delta_of_stay-before-requires-clause-write : goal.delta_of_stay-before-requires-clause-write
delta_of_stay-before-requires-clause-write c =
    let P = timetable_of c.args.self.now in
    let plan = plan-fits c.args.inst.now.draft P c.args.self.now c.requires.stands in
    let old : c.stay-old.result ≡ stay_of P c.args.patient.0 = rw c.plan.ensures at c.stay-old.ensures in
    (c.requires.write.0, λ at e. plan.placed c.args.patient.0 at (sym old ∙ e))

pub sub-requires : goal.sub-requires
sub-requires c = less-within c.delta_of_stay-after.result c.delta_of_stay-before.result c.delta_of_stay-after.ensures.within c.delta_of_stay-before.ensures.within

pub returns-in_default : goal.returns-in_default
returns-in_default c =
    let I = c.args.inst.now.draft in
    let P = timetable_of c.args.self.now in
    let old : c.stay-old.result ≡ stay_of P c.args.patient.0 = rw c.plan.ensures at c.stay-old.ensures in
    c.sub.ensures
    ∙ (ap (λ b. sub_bills b c.delta_of_stay-before.result) c.delta_of_stay-after.ensures.delta
    ∙ (ap (sub_bills (stay_delta I P c.args.patient c.args.new)) (c.delta_of_stay-before.ensures.delta ∙ ap (stay_delta I P c.args.patient) old)
    ∙ sym (two-stays I P c.args.patient c.args.new c.args.inst.now.valid (plan-fits I P c.args.self.now c.requires.stands) c.requires.write)))
