use Rattle.std.proofs.Common.{◌≡◌, refl, sym, arith}
use Rattle.std.proofs.lemmas.Result.{err_from_is_err_and}
use Rattle.ih_solution.proofs.PatientReadings.{are_admitted-none, are_admitted-more, are_admitted-fault, are_admitted-all}
use Rattle.ih_solution.proofs.reader.patients.each_stay.Goals as goal

pub loop-value-init : goal.loop-value-init
loop-value-init c = (rw (c.in_ok-listed.ensures, c.patients.ensures) (are_admitted-none _ _ _ _ c.in_ok-plan.ensures), refl)

pub returns-in_err-row-clause-gives : goal.returns-in_err-row-clause-gives
returns-in_err-row-clause-gives c =
    let here : c.loop-value.i ≡ c.loop-value.value-index = c.loop-value.invariant.1 in
    let p = err_from_is_err_and c.from_residual-in_err-row.result c.from_residual-in_err-row.ensures.1 in
    rw (
      p.1,
      p.2,
      are_admitted-fault c.value-item.result c.in_err-row.field-0.0 c.loop-value.invariant.0 c.loop-value-test.true c.value-item.is
          (rw (← here, ← c.item.ensures, ← c.as_slice.ensures.value) (sym c.in_err-row.ensures.gives)),
    ) refl

pub loop-value-preserved : goal.loop-value-preserved
loop-value-preserved c =
    let here : c.loop-value.i ≡ c.loop-value.value-index = c.loop-value.invariant.1 in
    let row = c.in_ok-row.ensures in (
      rw c.put.ensures (are_admitted-more c.value-item.result c.in_ok-row.row c.loop-value.invariant.0 c.loop-value-test.true c.value-item.is
          (rw (← here, ← c.item.ensures, ← c.as_slice.ensures.value) (sym row.gives)) row.inside (rw (← c.as_slice.ensures.value) row.new) row.placed),
      omega arith,
    )

pub returns-clause-plan : goal.returns-clause-plan
returns-clause-plan c = c.loop-value.invariant.0.plan

pub returns-clause-gives : goal.returns-clause-gives
returns-clause-gives c = are_admitted-all c.loop-value.invariant.0 c.loop-value-test.false
