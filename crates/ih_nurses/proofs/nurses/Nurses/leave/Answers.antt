use Rattle.std.proofs.Common.{subst, sym, ap, length, ◌∙◌, ◌≡◌, Some, None}
use Rattle.std.proofs.lemmas.List.{with_items_is}
use Rattle.ih_plan.specs.declared.moves.Write.TheVariants.{SetStay}
use Rattle.ih_plan.specs.Timetable.{stay_of}
use Rattle.ih_plan.proofs.PlanRanges.{put-plan}
use Rattle.ih_nurses.proofs.LedgerLemmas.{leaves, here-left, loads-taken, here-there, loads-enough, stands-own, stands-for}
use Rattle.ih_nurses.proofs.CountLemmas.{counts-taken, counts-enough}
use Rattle.ih_nurses.proofs.nurses.Nurses.leave.Goals as goal

pub leave_days-requires-clause-there : goal.leave_days-requires-clause-there
leave_days-requires-clause-there c =
    let known = c.requires.stands.1 in
    let admission = leaves c.args.inst.now.draft c.requires.stands.0 c.args.patient c.args.at known.fits c.requires.patient c.requires.placement c.requires.stands.2 in
    rw (c.as_mut_slice.ensures.value, c.end_of-end.ensures.value) (here-there admission c.args.self.now.here.items known.here_are)

pub take_stay-requires-clause-enough : goal.take_stay-requires-clause-enough
take_stay-requires-clause-enough c =
    let own = stands-own c.requires.stands.1 in
    let there = subst (λ S. stay_of S c.args.patient.0 ≡ Some c.args.at) (sym c.requires.stands.1.plan_is) c.requires.stands.2 in
    let admission = leaves c.args.inst.now.draft c.args.self.now.plan c.args.patient c.args.at own.fits c.requires.patient c.requires.placement there in
    rw c.as_mut_slice-2.ensures.value (loads-enough admission c.args.self.now.loads.items own.loads_are)

pub take_shift_span-requires-clause-enough : goal.take_shift_span-requires-clause-enough
take_shift_span-requires-clause-enough c =
    let own = stands-own c.requires.stands.1 in
    let there = subst (λ S. stay_of S c.args.patient.0 ≡ Some c.args.at) (sym c.requires.stands.1.plan_is) c.requires.stands.2 in
    let admission = leaves c.args.inst.now.draft c.args.self.now.plan c.args.patient c.args.at own.fits c.requires.patient c.requires.placement there in
    rw c.as_mut_slice-3.ensures.value (counts-enough admission c.placed_shift_span-shifts.result c.placed_shift_span-shifts.ensures.shift_span c.args.self.now.counts.items own.counts_are)

pub returns : goal.returns
returns c = λ P known.
    let own = stands-own known in
    let there = subst (λ S. stay_of S c.args.patient.0 ≡ Some c.args.at) (sym c.requires.stands.1.plan_is) c.requires.stands.2 in
    let admission = leaves c.args.inst.now.draft c.args.self.now.plan c.args.patient c.args.at own.fits c.requires.patient c.requires.placement there in
    stands-for known (SetStay c.args.patient None)
    (with_items_is c.args.self.now.here c.leave_days.new.here (c.leave_days.ensures.sized.days ∙ (sym own.here_are.sized.days ∙ sym c.args.self.now.here.ok.0)))
    (with_items_is c.args.self.now.loads c.take_stay.new.loads (c.take_stay.ensures.table.len ∙ (sym own.loads_are.table.len ∙ sym c.args.self.now.loads.ok.0)))
    (with_items_is c.args.self.now.counts c.take_shift_span.new.counts (c.take_shift_span.ensures.len ∙ (ap length c.as_mut_slice-3.ensures.value ∙ sym c.args.self.now.counts.ok.0)))
    c.put.ensures (put-plan c.args.inst.now.draft c.args.self.now.plan (SetStay c.args.patient None) own.fits (c.requires.patient, λ at e. absurd (let no : None ≡ Some at = e in cc)))
    (here-left admission _ _ own.here_are c.leave_days.ensures.sized (rw (← c.as_mut_slice.ensures.value, ← c.end_of-end.ensures.value) c.leave_days.ensures.each))
    (loads-taken admission _ _ own.loads_are c.take_stay.ensures.table (rw (← c.as_mut_slice-2.ensures.value) c.take_stay.ensures.each))
    (counts-taken admission c.placed_shift_span-shifts.result c.placed_shift_span-shifts.ensures.shift_span _ _ own.counts_are
    (c.take_shift_span.ensures.len ∙ ap length c.as_mut_slice-3.ensures.value) (rw (← c.as_mut_slice-3.ensures.value) c.take_shift_span.ensures.each))
