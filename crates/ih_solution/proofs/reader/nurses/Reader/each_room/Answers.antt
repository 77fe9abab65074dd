use Rattle.std.proofs.Common.{◌≡◌, sym}
use Rattle.ih_format.proofs.Items.{are_read-fault}
use Rattle.std.proofs.lemmas.Result.{err_from_is_err_and}
use Rattle.ih_solution.proofs.reader.nurses.Reader.each_room.Goals as goal

pub returns-in_err-free_room-clause-gives : goal.returns-in_err-free_room-clause-gives
returns-in_err-free_room-clause-gives c =
    let here : c.loop-value.i ≡ c.loop-value.value-index = c.loop-value.invariant.2 in
    let p = err_from_is_err_and c.from_residual.result c.from_residual.ensures.1 in
    rw (p.1, p.2) (are_read-fault c.value-item.result c.in_err-free_room.field-0.0 c.loop-value.invariant.0 c.loop-value-test.true c.value-item.is
    (rw (← here, ← c.item.ensures) (sym c.in_err-free_room.ensures.gives)))
