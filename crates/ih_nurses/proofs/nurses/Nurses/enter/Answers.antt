use Rattle.std.proofs.Common.{subst, sym, ap, length, ◌∙◌, ◌≡◌, Some, None}
use Rattle.std.proofs.lemmas.List.{with_items_is}
use Rattle.ih_plan.specs.declared.moves.Write.TheVariants.{SetStay}
use Rattle.ih_plan.specs.Timetable.{stay_of}
use Rattle.ih_plan.proofs.PlanRanges.{stay-plan}
use Rattle.ih_nurses.proofs.LedgerLemmas.{admits, here-entered, loads-added, stands-own, stands-for, not-here, not-counted, loads-small}
use Rattle.ih_nurses.proofs.CountLemmas.{counts-added}
use Rattle.ih_nurses.proofs.nurses.Nurses.enter.Goals as goal

pub enter_days-requires-clause-free : goal.enter_days-requires-clause-free
enter_days-requires-clause-free c = rw c.as_mut_slice.ensures.value (not-here c.requires.stands.1 c.args.patient.0 c.requires.patient c.requires.stands.2)

pub add_stay-requires-clause-small : goal.add_stay-requires-clause-small
add_stay-requires-clause-small c = rw c.as_mut_slice-2.ensures.value (loads-small c.requires.stands.1 c.args.inst.now.valid)

pub add_shift_span-requires-clause-none : goal.add_shift_span-requires-clause-none
add_shift_span-requires-clause-none c = rw c.as_mut_slice-3.ensures.value (not-counted c.requires.stands.1 c.args.patient.0 c.requires.patient c.requires.stands.2)

pub returns : goal.returns
returns c = λ P known.
    let own = stands-own known in
    let free = subst (λ S. stay_of S c.args.patient.0 ≡ None) (sym c.requires.stands.1.plan_is) c.requires.stands.2 in
    let admission = admits c.args.inst.now.draft c.args.self.now.plan c.args.patient c.args.at own.fits c.requires.patient c.requires.placement free in
    stands-for known (SetStay c.args.patient (Some c.args.at))
    (with_items_is c.args.self.now.here c.enter_days.new.here (c.enter_days.ensures.sized.days ∙ (sym own.here_are.sized.days ∙ sym c.args.self.now.here.ok.0)))
    (with_items_is c.args.self.now.loads c.add_stay.new.loads (c.add_stay.ensures.table.len ∙ (sym own.loads_are.table.len ∙ sym c.args.self.now.loads.ok.0)))
    (with_items_is c.args.self.now.counts c.add_shift_span.new.counts (c.add_shift_span.ensures.len ∙ (ap length c.as_mut_slice-3.ensures.value ∙ sym c.args.self.now.counts.ok.0)))
    c.put.ensures (stay-plan c.args.inst.now.draft c.args.self.now.plan c.args.patient c.args.at own.fits c.requires.patient c.requires.placement)
    (here-entered admission _ _ own.here_are c.enter_days.ensures.sized (rw (← c.as_mut_slice.ensures.value, ← c.end_of-end.ensures.value) c.enter_days.ensures.each))
    (loads-added admission _ _ own.loads_are c.add_stay.ensures.table (rw (← c.as_mut_slice-2.ensures.value) c.add_stay.ensures.each))
    (counts-added admission c.placed_shift_span-shifts.result c.placed_shift_span-shifts.ensures.shift_span _ _ own.counts_are
    (c.add_shift_span.ensures.len ∙ ap length c.as_mut_slice-3.ensures.value) (rw (← c.as_mut_slice-3.ensures.value) c.add_shift_span.ensures.each))
