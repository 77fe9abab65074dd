use Rattle.std.proofs.Common.{◌∙◌, arith}
use Rattle.ih_links.specs.Lists.{list_of, without}
use Rattle.ih_theatres.proofs.DeltaLemmas.{surgeon-was, surgeon-delta}
use Rattle.ih_theatres.proofs.LedgerLemmas.{surgeon-is, surgeon-most, theatres-few, marks-below}
use Rattle.ih_theatres.proofs.theatres.Theatres.surgeon_delta.Goals as goal

pub minutes_but-others-requires-clause-list : goal.minutes_but-others-requires-clause-list
minutes_but-others-requires-clause-list c =
    let s = c.requires.stands in
    let day = c.args.at.day in
    let inside = c.requires.placement.day in (
      list_of c.args.self.now.surgeon_days c.day_number-today.result,
      (s.1.surgeon_days.known c.day_number-today.result).once,
      surgeon-is s.1 day.0 c.day_number-today.result inside c.args.surgeon.0 c.requires.surgeon c.day_number-today.ensures c.index-planned.result.now c.index-planned.ensures,
      surgeon-was s.1 c.args.patient c.args.old s.2 day inside c.is_operated_by-was.result c.day_number-today.result c.args.surgeon
          c.is_operated_by-was.ensures c.day_number-today.ensures,
    )

pub surgeon_counts-without-requires-clause-bound : goal.surgeon_counts-without-requires-clause-bound
surgeon_counts-without-requires-clause-bound c =
    let s = c.requires.stands in
    omega (arith, c.minutes_but-others.ensures.bound, surgeon-most s.1 _ _ c.requires.placement.day _ c.requires.surgeon c.day_number-today.ensures _ c.index-planned.ensures c.args.inst.now.valid)

pub surgeon_counts-with-requires-clause-bound : goal.surgeon_counts-with-requires-clause-bound
surgeon_counts-with-requires-clause-bound c =
    let s = c.requires.stands in
    omega (arith, c.minutes_but-others.ensures.bound, surgeon-most s.1 _ _ c.requires.placement.day _ c.requires.surgeon c.day_number-today.ensures _ c.index-planned.ensures c.args.inst.now.valid)

pub marks_of_theatres_but-used-requires-clause-known : goal.marks_of_theatres_but-used-requires-clause-known
marks_of_theatres_but-used-requires-clause-known c =
    let s = c.requires.stands in
    rw c.as_slice.ensures.value (theatres-few c.args.inst.now.valid s.1)

pub surgeon_counts-without-requires-clause-marks : goal.surgeon_counts-without-requires-clause-marks
surgeon_counts-without-requires-clause-marks c =
    let s = c.requires.stands in
    marks-below c.args.inst.now.valid s.1 c.marks_of_theatres_but-used.result (without c.args.patient.0 (list_of c.args.self.now.surgeon_days c.day_number-today.result))
    (rw c.as_slice.ensures.value at c.marks_of_theatres_but-used.ensures)

pub surgeon_counts-with-requires-clause-marks : goal.surgeon_counts-with-requires-clause-marks
surgeon_counts-with-requires-clause-marks c =
    let s = c.requires.stands in
    marks-below c.args.inst.now.valid s.1 c.marks_of_theatres_but-used.result (without c.args.patient.0 (list_of c.args.self.now.surgeon_days c.day_number-today.result))
    (rw c.as_slice.ensures.value at c.marks_of_theatres_but-used.ensures)

pub returns-clause-delta : goal.returns-clause-delta
returns-clause-delta c = λ P stands stay.
    let at = c.args.at in
    let inside = c.requires.placement.day in
    let others = without c.args.patient.0 (list_of c.args.self.now.surgeon_days c.day_number-today.result) in
    let sum = c.minutes_but-others.ensures.sum (list_of c.args.self.now.surgeon_days c.day_number-today.result) (stands.surgeon_days.known c.day_number-today.result).once
    (surgeon-is stands at.day.0 c.day_number-today.result inside c.args.surgeon.0 c.requires.surgeon c.day_number-today.ensures c.index-planned.result.now c.index-planned.ensures)
    (surgeon-was stands c.args.patient c.args.old stay at.day inside c.is_operated_by-was.result c.day_number-today.result c.args.surgeon
    c.is_operated_by-was.ensures c.day_number-today.ensures) in
    c.surgeon_change.ensures.value
    ∙ surgeon-delta stands c.args.patient c.requires.patient at inside c.args.surgeon c.requires.own _ _ c.day_number-today.ensures c.surgeon_maximum-most.ensures
    c.marks_of_theatres_but-used.result (rw c.as_slice.ensures.value at c.marks_of_theatres_but-used.ensures) _ _ _ _
    (c.surgeon_counts-without.ensures.over others sum) c.surgeon_counts-without.ensures.cost
    (c.surgeon_counts-with.ensures.over others sum) c.surgeon_counts-with.ensures.cost
