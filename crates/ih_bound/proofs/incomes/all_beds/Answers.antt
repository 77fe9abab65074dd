use Rattle.std.proofs.Common.{◌≡◌, ◌≤◌, arith, refl, sym}
use Rattle.ih_plan.specs.Costs.{capacity_of}
use Rattle.ih_plan.proofs.SumLemmas.{sum_below-zero, sum_below-more}
use Rattle.ih_plan.proofs.Overtime.{from-all}
use Rattle.ih_bound.proofs.incomes.all_beds.Goals as goal

pub loop-r-init : goal.loop-r-init
loop-r-init c = record { value = sym (sum_below-zero (capacity_of c.args.inst.now.draft)); most = omega arith }

pub loop-r-preserved : goal.loop-r-preserved
loop-r-preserved c =
    let I = c.args.inst.now.draft in
    let here : capacity_of I c.loop-r.r ≡ c.room.result.now.capacity = rw c.room.ensures refl in
    let few = from-all (λ r. r.capacity ≤ 1000) I.rooms c.loop-r.r c.room.result.now c.args.inst.now.valid.capacity c.room.ensures in
    record {
      value = omega (arith, sum_below-more c.loop-r.r (capacity_of I), here, c.loop-r.invariant.value);
      most = omega (arith, few, c.loop-r.invariant.most);
    }
