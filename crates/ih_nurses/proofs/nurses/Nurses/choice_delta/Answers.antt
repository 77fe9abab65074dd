use Rattle.std.proofs.Common.{◌≡◌, ◌<◌, ◌∙◌, rules, subst}
use Rattle.std.specs.Prelude.{sum_by}
use Rattle.ih_tables.specs.declared.ids.NurseNo.{NurseNo}
use Rattle.ih_tables.specs.Sizes.{nurse_count}
use Rattle.ih_links.specs.Lists.{list_of}
use Rattle.ih_plan.specs.Presence.{present, day_of, workload_of}
use Rattle.ih_nurses.specs.Choice.{seen_by}
use Rattle.ih_nurses.specs.Counts.{has_just}
use Rattle.ih_nurses.specs.Deltas.{off_in, uncovered_in, missing_in}
use Rattle.ih_nurses.proofs.ChoiceLemmas.{cares-told}
use Rattle.ih_nurses.proofs.ChoiceDeltaLemmas.{off-told, uncovered-told, missing-told, come-told, gone-told}
use Rattle.ih_nurses.proofs.LedgerLemmas.{stands-own, all-some}
use Rattle.ih_nurses.proofs.ChoiceLemmas.{increase-for}
use Rattle.ih_nurses.proofs.RoomChangeLemmas.{IsRoomList}
use Rattle.ih_nurses.proofs.ShiftLemmas.{sum-in_list}
use Rattle.ih_nurses.proofs.nurses.Nurses.choice_delta.Goals as goal

pub loads_change-requires-clause-work : goal.loads_change-requires-clause-work
loads_change-requires-clause-work c =
    let I = c.args.inst.now.draft in
    let plan = c.args.self.now.plan in
    let own = stands-own c.requires.stands.1 in
    c.room_sums-sums.ensures.work
    ∙ sum-in_list I plan c.args.self.now.here.items c.index-persons.result.now c.args.room.0 c.args.shift.0
    (workload_of I plan c.args.shift.0) own.here_are c.requires.room c.requires.shift c.index-persons.ensures c.room_sums-sums.ensures.nodes

pub returns : goal.returns
returns c =
    let I = c.args.inst.now.draft in
    let plan = c.args.self.now.plan in
    let own = stands-own c.requires.stands.1 in
    let day = c.index-persons.result.now in
    let list : IsRoomList I plan c.args.self.now.here.items day c.args.room.0 c.args.shift.0 =
    record { known = own.here_are; room = c.requires.room; shift = c.requires.shift; day_is = c.index-persons.ensures; nodes = c.uncovered.ensures.nodes } in
    let off = off-told I plan c.args.room c.args.shift c.args.new own.fits c.requires.room c.requires.shift
    c.nurse_at-old.result c.nurse_off.result c.nurse_off-2.result c.nurse_at-old.ensures.choice c.nurse_off.ensures c.nurse_off-2.ensures in
    let uncovered = uncovered-told I plan c.args.room c.args.shift c.args.new own.fits c.requires.room c.requires.shift _ _ list
    c.nurse_at-old.result c.uncovered.result c.uncovered-2.result c.nurse_at-old.ensures.choice c.uncovered.ensures.value c.uncovered-2.ensures.value in
    let missing = missing-told I plan c.args.room c.args.shift c.args.new own.fits c.requires.room c.requires.shift _ _ list c.nurse_at-old.result
    c.room_sums-sums.result.new_missing c.room_sums-sums.result.old_missing c.nurse_at-old.ensures.choice
    c.room_sums-sums.ensures.new_missing c.room_sums-sums.ensures.old_missing in
    let here = c.args.self.now.here.items in
    let counts = c.args.self.now.counts.items in
    let sums = c.room_sums-sums.ensures in
    let nurse = all-some (λ (a : NurseNo). a.0 < nurse_count I) c.args.new c.requires.nurse in
    let come = subst (λ cs. c.room_sums-sums.result.come
    ≡ sum_by (has_just I cs 0 c.args.new) (list_of c.index-persons.result.now c.args.room.0)) c.as_slice-counts.ensures.value c.room_sums-sums.ensures.come
    ∙ (sum-in_list I plan here day c.args.room.0 c.args.shift.0 (has_just I counts 0 c.args.new) own.here_are c.requires.room c.requires.shift c.index-persons.ensures sums.nodes
    ∙ come-told I plan c.args.room c.args.shift counts own.counts_are c.requires.shift c.args.new nurse (c.requires.other plan own)) in
    let gone = subst (λ cs. c.room_sums-sums.result.gone
    ≡ sum_by (has_just I cs 1 c.nurse_at-old.result)
    (list_of c.index-persons.result.now c.args.room.0)) c.as_slice-counts.ensures.value c.room_sums-sums.ensures.gone
    ∙ (sum-in_list I plan here day c.args.room.0 c.args.shift.0 (has_just I counts 1 c.nurse_at-old.result) own.here_are c.requires.room c.requires.shift c.index-persons.ensures sums.nodes
    ∙ gone-told I plan c.args.room c.args.shift counts own.counts_are c.requires.shift c.nurse_at-old.result c.nurse_at-old.ensures.nurse c.nurse_at-old.ensures.choice) in
    let told = cares-told I plan c.args.room c.args.shift c.args.new own.fits c.requires.room c.requires.shift nurse c.room_sums-sums.result.come c.room_sums-sums.result.gone come gone in
    record {
      off = λ P known. increase-for known c.args.room c.args.shift c.args.new (λ S Q. off_in I Q c.args.room c.args.shift) c.increase.result (search rules) (c.increase.ensures.value ∙ off);
      uncovered = λ P known. increase-for known c.args.room c.args.shift c.args.new (λ S Q. uncovered_in I Q c.args.room c.args.shift) c.increase-2.result (search rules) (c.increase-2.ensures.value ∙ uncovered);
      missing_skill = λ P known. increase-for known c.args.room c.args.shift c.args.new (λ S Q. missing_in I Q c.args.room c.args.shift) c.increase-3.result (search rules) (c.increase-3.ensures.value ∙ missing);
      nurses_seen = λ P known.
          increase-for known c.args.room c.args.shift c.args.new (λ S Q. seen_by I Q (present I S c.args.room.0 (day_of c.args.shift.0))) c.increase-4.result (search rules) (c.increase-4.ensures.value ∙ told);
      overload = search rules;
    }
