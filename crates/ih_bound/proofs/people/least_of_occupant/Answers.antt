use Rattle.std.proofs.Common.{◌+◌, ◌∙◌, arith}
use Rattle.ih_tables.specs.Sizes.{patient_count}
use Rattle.ih_bound.specs.Tariffs.{tariff_of}
use Rattle.ih_bound.specs.Stays.{asked}
use Rattle.ih_bound.proofs.LeastPaid.{asked-by_occupant, admission-occupant, occupant-length, beds-from, paid-least}
use Rattle.ih_bound.proofs.people.least_of_occupant.Goals as goal

pub returns : goal.returns
returns c = λ P feasible.
    let I = c.args.inst.now.draft in
    let x = patient_count I + c.args.occupant in
    let o = c.occupant-q.result.now in
    let e = c.occupant-q.ensures in
    let t = tariff_of I c.args.rates.now c.args.prices.now in
    let stay = c.stay_from-stay.result in
    let adm = admission-occupant I P c.args.occupant o e in
    let care = c.care-care.ensures P x 0 o.room_id.0 feasible
    (asked-by_occupant I c.args.occupant 0 o (asked stay.skill.now stay.load.now stay.first stay.last) c.requires e (c.stay_from-stay.ensures.lists.0 ∙ c.as_slice-skill.ensures)
    (c.stay_from-stay.ensures.lists.1 ∙ c.as_slice-load.ensures) c.stay_from-stay.ensures.first c.stay_from-stay.ensures.last) adm in
    let beds = rw (occupant-length I c.args.occupant o e) at (beds-from I t P x 0 o.room_id.0 adm) in
    omega (arith, care, beds, paid-least I c.args.rates.now t P x, c.bed_cost-beds.ensures, c.saturating_add.ensures)
