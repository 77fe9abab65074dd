use Rattle.std.proofs.Common.{◌≡◌, ◌∙◌, ap, sym, rules}
use Rattle.ih_plan.specs.declared.moves.Write.TheVariants.{SetCare}
use Rattle.ih_plan.specs.Timetable.{choice_of}
use Rattle.ih_plan.specs.Writes.{put}
use Rattle.ih_plan.specs.BillOf.{change_of_bill}
use Rattle.ih_plan.proofs.PlanRanges.{choice-inside}
use Rattle.ih_costs.specs.CellLedgers.{timetable_of}
use Rattle.ih_plan.proofs.ChangeSums.{change-same}
use Rattle.ih_costs.proofs.ChoiceBills.{choice-priced, other-number}
use Rattle.ih_costs.proofs.StandLemmas.{plan-fits}
use Rattle.ih_costs.proofs.UndoLemmas.{choice-again}
use Rattle.ih_costs.proofs.cell_ledgers.CellLedgers.choice_price.Goals as goal

pub care-old-requires : goal.care-old-requires
care-old-requires c =
    let I = c.args.inst.now.draft in
    let P = timetable_of c.args.self.now in
    rw c.plan.ensures (choice-inside I P c.args.room.0 c.args.shift.0 (plan-fits I P c.args.self.now c.requires.stands) c.requires.write.0 c.requires.write.1)

pub returns-then-eq : goal.returns-then-eq
returns-then-eq c =
    let I = c.args.inst.now.draft in
    let P = timetable_of c.args.self.now in
    let old : c.care-old.result ≡ choice_of P c.args.room.0 c.args.shift.0 = rw c.plan.ensures at c.care-old.ensures in
    let h = c.if-eq.ensures in
    let t = c.if-eq.true in
    let same : c.args.new ≡ c.care-old.result = search (rules, h) in
    c.zero.ensures ∙ (change-same I P ∙ ap (change_of_bill I P) (sym (ap (λ n. put (SetCare c.args.room c.args.shift n) P) (same ∙ old) ∙ choice-again P c.args.room c.args.shift)))

pub returns : goal.returns
returns c =
    let I = c.args.inst.now.draft in
    let P = timetable_of c.args.self.now in
    let old : c.care-old.result ≡ choice_of P c.args.room.0 c.args.shift.0 = rw c.plan.ensures at c.care-old.ensures in
    let h = c.if-eq.ensures in
    let f = c.if-eq.false in
    let apart : c.args.new ≡ c.care-old.result → ⊥ = search (rules, h) in
    let stands = c.requires.stands.nurses in
    rw c.zero-bill.ensures (choice-priced I P c.args.room c.args.shift c.args.new c.choice_delta-delta.result.off c.choice_delta-delta.result.uncovered c.choice_delta-delta.result.missing_skill
    c.choice_delta-delta.result.nurses_seen c.choice_delta-delta.result.overload c.args.inst.now.valid
    (plan-fits I P c.args.self.now c.requires.stands) c.requires.write (other-number (choice_of P c.args.room.0 c.args.shift.0) c.args.new (λ e. apart (e ∙ sym old)))
    (c.choice_delta-delta.ensures.off P stands) (c.choice_delta-delta.ensures.uncovered P stands) (c.choice_delta-delta.ensures.missing_skill P stands)
    (c.choice_delta-delta.ensures.nurses_seen P stands) (c.choice_delta-delta.ensures.overload P stands))
