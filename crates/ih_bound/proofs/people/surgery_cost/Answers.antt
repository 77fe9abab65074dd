use Rattle.std.proofs.Common.{◌+◌, ◌*◌, ◌^◌, arith}
use Rattle.std.proofs.lemmas.Nat.{mul-le}
use Rattle.ih_bound.specs.Tariffs.{price_in}
use Rattle.ih_bound.proofs.people.surgery_cost.Goals as goal

pub returns : goal.returns
returns c = λ rates i hi by_theatre by_surgeon.
    let days = c.args.inst.now.draft.days in
    let minutes = c.args.q.now.surgery_duration in
    let one = mul-le minutes c.surgeon_on-surgeon.result minutes (price_in c.args.prices.now.surgeon.items (days * c.args.q.now.surgeon_id.0 + c.args.day) (2 ^ 29)) (omega arith) (let same = rw c.days.ensures at c.surgeon_on-surgeon.ensures in omega (arith, same)) in
    let two = c.theatre_cost-theatre.ensures rates i hi by_theatre in
    omega (arith, one, two, c.saturating_mul.ensures, c.saturating_add.ensures)
