use Rattle.std.proofs.Common.{◌<◌, arith, sym, subst}
use Rattle.ih_tables.specs.Sizes.{nurse_count, room_count, shift_count}
use Rattle.ih_plan.specs.Timetable.{IsPlanOf}
use Rattle.ih_plan.proofs.PlanRanges.{care-plan}
use Rattle.ih_fixtures.proofs.starts.first_admitted.Goals as goal

pub loop-k-preserved : goal.loop-k-preserved
loop-k-preserved c =
    let I = c.args.inst.now.draft in
    let k = c.loop-k.k in
    let room : 0 < room_count I = (let rooms = c.requires.rooms in omega (arith, rooms)) in
    let shift : k < shift_count I = (let days = c.requires.days in let below = c.loop-k-test.true in omega (arith, days, below)) in
    let nurse : 0 < nurse_count I = (let nurses = c.requires.nurses in omega (arith, nurses)) in
    subst (IsPlanOf I) (sym c.put-in-loop-k.ensures) (care-plan I c.loop-k.plan (record { 0 = 0 }) (record { 0 = k }) (record { 0 = 0 }) c.loop-k.invariant room shift nurse)
