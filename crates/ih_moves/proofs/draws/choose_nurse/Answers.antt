use Rattle.std.proofs.Common.{◌∙◌, ap, arith, length}
use Rattle.ih_moves.proofs.Working.{working-few, working-below, nurse-chosen, none-chosen}
use Rattle.ih_moves.proofs.draws.choose_nurse.Goals as goal

pub overflow_cast-working : goal.overflow_cast-working
overflow_cast-working c =
    omega (arith, working-few c.args.inst.now.draft c.args.shift, ap length c.working-working.ensures, c.args.inst.now.valid.nurses.len)

pub returns-in_err-place-clause-value : goal.returns-in_err-place-clause-value
returns-in_err-place-clause-value c =
    c.from_residual.ensures
    ∙ none-chosen c.args.inst.now.draft c.args.word c.args.shift c.working-working.result.now c.working-working.ensures c.in_err-place.ensures.value

pub returns-clause-value : goal.returns-clause-value
returns-clause-value c =
    nurse-chosen c.args.inst.now.draft c.args.word c.args.shift c.in_ok-place.place c.working-working.result.now _
    c.working-working.ensures c.in_ok-place.ensures.value c.in_ok-place.ensures.below

pub returns-clause-below : goal.returns-clause-below
returns-clause-below c =
    working-below c.args.inst.now.draft c.args.shift c.in_ok-place.place c.working-working.result.now _
    c.working-working.ensures c.in_ok-place.ensures.below
