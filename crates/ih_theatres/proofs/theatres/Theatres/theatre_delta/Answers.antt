use Rattle.std.proofs.Common.{◌∙◌, arith}
use Rattle.ih_links.specs.Lists.{list_of, without}
use Rattle.ih_theatres.proofs.DeltaLemmas.{theatre-was, theatre-delta}
use Rattle.ih_theatres.proofs.LedgerLemmas.{theatre-is, theatre-most}
use Rattle.ih_theatres.proofs.theatres.Theatres.theatre_delta.Goals as goal

pub minutes_but-others-requires-clause-list : goal.minutes_but-others-requires-clause-list
minutes_but-others-requires-clause-list c =
    let s = c.requires.stands in
    let at = c.args.at in
    let fits = c.requires.placement in (
      list_of c.args.self.now.theatre_days c.day_number-today.result,
      (s.1.theatre_days.known c.day_number-today.result).once,
      theatre-is s.1 at.day.0 c.day_number-today.result fits.day at.theatre.0 fits.theatre c.day_number-today.ensures c.index-planned.result.now c.index-planned.ensures,
      theatre-was s.1 c.args.patient c.args.old s.2 at.day fits.day c.is_operated_in-was.result c.day_number-today.result at.theatre
          c.is_operated_in-was.ensures c.day_number-today.ensures,
    )

pub theatre_counts-without-requires-clause-bound : goal.theatre_counts-without-requires-clause-bound
theatre_counts-without-requires-clause-bound c =
    let fits = c.requires.placement in
    omega (arith, c.minutes_but-others.ensures.bound, theatre-most c.requires.stands.1 _ _ fits.day _ fits.theatre c.day_number-today.ensures _ c.index-planned.ensures c.args.inst.now.valid)

pub theatre_counts-with-requires-clause-bound : goal.theatre_counts-with-requires-clause-bound
theatre_counts-with-requires-clause-bound c =
    let fits = c.requires.placement in
    omega (arith, c.minutes_but-others.ensures.bound, theatre-most c.requires.stands.1 _ _ fits.day _ fits.theatre c.day_number-today.ensures _ c.index-planned.ensures c.args.inst.now.valid)

pub is_used_by_others-used-requires-clause-once : goal.is_used_by_others-used-requires-clause-once
is_used_by_others-used-requires-clause-once c = (c.requires.stands.1.theatre_days.known c.day_number-today.result).once

pub is_used_by_others-used-requires-clause-there : goal.is_used_by_others-used-requires-clause-there
is_used_by_others-used-requires-clause-there c =
    let s = c.requires.stands in
    theatre-was s.1 c.args.patient c.args.old s.2 c.args.at.day c.requires.placement.day c.is_operated_in-was.result c.day_number-today.result c.args.at.theatre
    c.is_operated_in-was.ensures c.day_number-today.ensures

pub returns-clause-delta : goal.returns-clause-delta
returns-clause-delta c = λ P stands stay.
    let at = c.args.at in
    let fits = c.requires.placement in
    let others = without c.args.patient.0 (list_of c.args.self.now.theatre_days c.day_number-today.result) in
    let sum = c.minutes_but-others.ensures.sum (list_of c.args.self.now.theatre_days c.day_number-today.result) (stands.theatre_days.known c.day_number-today.result).once
    (theatre-is stands at.day.0 c.day_number-today.result fits.day at.theatre.0 fits.theatre c.day_number-today.ensures c.index-planned.result.now c.index-planned.ensures)
    (theatre-was stands c.args.patient c.args.old stay at.day fits.day c.is_operated_in-was.result c.day_number-today.result at.theatre
    c.is_operated_in-was.ensures c.day_number-today.ensures) in
    c.theatre_change.ensures.value
    ∙ theatre-delta stands c.args.patient c.requires.patient at fits.day c.day_number-today.result c.theatre_availability-most.result c.day_number-today.ensures c.theatre_availability-most.ensures
    _ _ _ _
    (c.theatre_counts-without.ensures.over others sum) (c.theatre_counts-without.ensures.cost others c.is_used_by_others-used.ensures)
    (c.theatre_counts-with.ensures.over others sum) (c.theatre_counts-with.ensures.cost others c.is_used_by_others-used.ensures)
