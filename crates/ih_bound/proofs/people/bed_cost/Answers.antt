use Rattle.std.proofs.Common.{◌≡◌, ℕ, ◌+◌, ◌≤◌, arith, refl, true}
use Rattle.std.specs.Prelude.{if◌then◌else◌}
use Rattle.ih_plan.specs.Presence.{covers}
use Rattle.ih_plan.proofs.SumLemmas.{sum_below-more}
use Rattle.ih_plan.proofs.Spans.{span-true}
use Rattle.ih_bound.specs.Tariffs.{tariff_of}
use Rattle.ih_bound.proofs.SumLaws.{sum_below-longer}
use Rattle.ih_bound.proofs.people.bed_cost.Goals as goal

pub loop-d-preserved : goal.loop-d-preserved
loop-d-preserved c =
    let t = tariff_of c.args.inst.now.draft c.args.rates.now c.args.prices.now in
    let f : ℕ → ℕ = λ d. if covers c.args.day c.args.len d then t.bed d else 0 in
    let inside : covers c.args.day c.args.len c.loop-d.d ≡ true = span-true c.args.day (c.args.day + c.args.len) c.loop-d.d (omega arith) (omega (arith, c.end_from-end.ensures.value)) in
    let here : f c.loop-d.d ≡ t.bed c.loop-d.d = rw inside refl in
    omega (arith, sum_below-more c.loop-d.d f, here, c.loop-d.invariant, c.bed_on.ensures, c.saturating_add-sum.ensures)

pub returns : goal.returns
returns c =
    let t = tariff_of c.args.inst.now.draft c.args.rates.now c.args.prices.now in
    let f : ℕ → ℕ = λ d. if covers c.args.day c.args.len d then t.bed d else 0 in
    let end : c.loop-d.d ≤ c.args.inst.now.draft.days = omega (arith, c.end_from-end.ensures.value) in
    omega (arith, c.loop-d.invariant, sum_below-longer c.loop-d.d c.args.inst.now.draft.days f end)
