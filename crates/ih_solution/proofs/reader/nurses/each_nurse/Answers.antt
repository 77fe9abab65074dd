use Rattle.std.proofs.Common.{◌≡◌, refl, arith}
use Rattle.std.proofs.lemmas.Result.{err_from_is_err_and}
use Rattle.ih_solution.proofs.NurseReadings.{are_nursed-none, are_nursed-more, are_nursed-exit, are_nursed-all}
use Rattle.ih_solution.proofs.reader.nurses.each_nurse.Goals as goal

pub loop-value-init : goal.loop-value-init
loop-value-init c = (rw (c.in_ok-listed.ensures, c.nurses.ensures) (are_nursed-none _ _ _ _ c.requires.plan c.requires.empty), refl)

pub returns-in_err-row-clause-gives : goal.returns-in_err-row-clause-gives
returns-in_err-row-clause-gives c =
    let here : c.loop-value.i ≡ c.loop-value.value-index = c.loop-value.invariant.1 in
    let p = err_from_is_err_and c.from_residual-in_err-row.result c.from_residual-in_err-row.ensures.1 in
    rw (p.1, p.2) (are_nursed-exit _ c.value-item.result c.in_err-row.field-0.0 c.loop-value.invariant.0 c.loop-value-test.true c.value-item.is
    (rw (← here, ← c.item.ensures, ← c.as_slice.ensures.value) c.in_err-row.ensures.gives))

pub loop-value-preserved : goal.loop-value-preserved
loop-value-preserved c =
    let here : c.loop-value.i ≡ c.loop-value.value-index = c.loop-value.invariant.1 in
    let row = c.in_ok-row.ensures in
    let some = c.args.inst.now.valid.days.least in (
      are_nursed-more c.value-item.result c.in_ok-row.row c.assign_all.new.plan some c.loop-value.invariant.0 c.loop-value-test.true c.value-item.is
          (rw (← here, ← c.item.ensures, ← c.as_slice.ensures.value) row.gives) row.fits c.assign_all.ensures.plan c.assign_all.ensures.gives,
      omega arith,
    )

pub returns-clause-plan : goal.returns-clause-plan
returns-clause-plan c = c.loop-value.invariant.0.plan

pub returns-clause-gives : goal.returns-clause-gives
returns-clause-gives c = are_nursed-all c.loop-value.invariant.0 c.requires.plan.shifts c.loop-value-test.false
