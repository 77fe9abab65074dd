use Rattle.std.proofs.Common.{◌≡◌, ◌∙◌, refl, sym}
use Rattle.std.proofs.lemmas.List.{with_items_is}
use Rattle.ih_plan.specs.declared.moves.Write.TheVariants.{SetCare}
use Rattle.ih_plan.specs.Presence.{workload_of}
use Rattle.ih_plan.proofs.Loads.{room_load}
use Rattle.ih_plan.proofs.PlanRanges.{put-plan, choice-inside}
use Rattle.ih_nurses.proofs.LedgerLemmas.{stands-own, stands-for, loads-small}
use Rattle.ih_nurses.proofs.ShiftLemmas.{sum-in_list, list-there, load-enough, loads-moved, here-kept}
use Rattle.ih_nurses.proofs.nurses.Nurses.set_care.Goals as goal

pub move_load-requires-clause-small : goal.move_load-requires-clause-small
move_load-requires-clause-small c = λ m mh. rw c.as_mut_slice.ensures.value (loads-small c.requires.stands.1 c.args.inst.now.valid m c.args.shift.0 mh c.requires.shift)

pub move_load-requires-clause-enough : goal.move_load-requires-clause-enough
move_load-requires-clause-enough c =
    let own = stands-own c.requires.stands.1 in
    let total : c.workload_in-load.result ≡ room_load c.args.inst.now.draft c.args.self.now.plan c.args.shift.0 c.args.room.0 =
    c.workload_in-load.ensures.sum ∙ sum-in_list c.args.inst.now.draft c.args.self.now.plan c.args.self.now.here.items c.index-persons.result.now c.args.room.0 c.args.shift.0
    (workload_of c.args.inst.now.draft c.args.self.now.plan c.args.shift.0) own.here_are c.requires.room c.requires.shift c.index-persons.ensures c.workload_in-load.ensures.nodes in
    rw c.as_mut_slice.ensures.value
    (load-enough c.args.inst.now.draft c.args.self.now.plan c.args.room c.args.shift c.nurse_at-old.result c.workload_in-load.result c.args.self.now.loads.items own.fits c.requires.room c.requires.shift
    c.nurse_at-old.ensures.choice total own.loads_are)

pub move_counts-requires-clause-there : goal.move_counts-requires-clause-there
move_counts-requires-clause-there c =
    let own = stands-own c.requires.stands.1 in
    list-there _ _ c.args.self.now.here.items c.index-persons.result.now c.args.room.0 c.args.shift.0 own.here_are c.requires.room c.requires.shift c.index-persons.ensures

pub move_counts-requires-clause-counts : goal.move_counts-requires-clause-counts
move_counts-requires-clause-counts c = rw c.as_mut_slice-counts.ensures.value (stands-own c.requires.stands.1).counts_are

pub put-requires : goal.put-requires
put-requires c =
    let own = stands-own c.requires.stands.1 in
    choice-inside c.args.inst.now.draft c.args.self.now.plan c.args.room.0 c.args.shift.0 own.fits c.requires.room c.requires.shift

pub returns : goal.returns
returns c = λ P known.
    let own = stands-own known in
    let total : c.workload_in-load.result ≡ room_load c.args.inst.now.draft c.args.self.now.plan c.args.shift.0 c.args.room.0 =
    c.workload_in-load.ensures.sum ∙ sum-in_list c.args.inst.now.draft c.args.self.now.plan c.args.self.now.here.items c.index-persons.result.now c.args.room.0 c.args.shift.0
    (workload_of c.args.inst.now.draft c.args.self.now.plan c.args.shift.0) own.here_are c.requires.room c.requires.shift c.index-persons.ensures c.workload_in-load.ensures.nodes in
    stands-for known (SetCare c.args.room c.args.shift c.args.nurse) refl
    (with_items_is c.args.self.now.loads c.move_load.new.loads (c.move_load.ensures.table.len ∙ (sym own.loads_are.table.len ∙ sym c.args.self.now.loads.ok.0)))
    (with_items_is c.args.self.now.counts c.move_counts.new.counts (c.move_counts.ensures.len ∙ (sym own.counts_are.len ∙ sym c.args.self.now.counts.ok.0)))
    c.put.ensures
    (put-plan c.args.inst.now.draft c.args.self.now.plan (SetCare c.args.room c.args.shift c.args.nurse) own.fits (c.requires.room, c.requires.shift, c.requires.nurse))
    (here-kept c.args.inst.now.draft c.args.self.now.plan c.args.room c.args.shift c.args.nurse c.args.self.now.here.items own.here_are)
    (loads-moved c.args.inst.now.draft c.args.self.now.plan c.args.room c.args.shift c.args.nurse c.nurse_at-old.result own.fits c.requires.room c.requires.shift
    c.nurse_at-old.ensures.choice c.workload_in-load.result total c.args.self.now.loads.items own.loads_are c.move_load.new.loads c.move_load.ensures.table
    (rw (← c.as_mut_slice.ensures.value) c.move_load.ensures.each))
    c.move_counts.ensures
