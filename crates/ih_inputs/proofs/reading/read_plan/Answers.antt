use Rattle.std.proofs.Common.{◌∙◌, ap, arith, subst, sym}
use Rattle.ih_tables.specs.declared.refusals.Refusal.{Refusal}
use Rattle.ih_solution.specs.Reading.{plan_in}
use Rattle.ih_inputs.specs.declared.error.Refused.{Refused}
use Rattle.ih_inputs.specs.Errors.{refused_as}
use Rattle.ih_inputs.specs.Reading.{IsNoPlan}
use Rattle.ih_plan.specs.Timetable.{Timetable}
use Rattle.ih_inputs.proofs.Unread.{no-plan, refused-by, said}
use Rattle.ih_inputs.proofs.reading.read_plan.Goals as goal

pub returns-in-Err-Refused-clause-unread : goal.returns-in-Err-Refused-clause-unread
returns-in-Err-Refused-clause-unread g c =
    let files = g.S.Shelf.names c.args.shelf.now in
    let of : Refusal → Refused = λ e. record { refusal = e; bytes = c.in-Ok.bytes } in
    subst (IsNoPlan c.args.role files c.args.name.now c.args.inst.now.draft) (sym (c.refused_as.ensures ∙ ap (λ (e : Refusal). refused_as c.args.role (of e)) c.in-Err-Refused.refusal-is))
    (no-plan files c.args.name.now (of c.in-Err-Refused.refusal) c.args.role c.args.inst.now.draft
    (refused-by files c.args.name.now (of c.in-Err-Refused.refusal) (plan_in c.args.inst.now.draft) c.in-Ok.ensures.bytes
    (let limit = c.in-Ok.ensures.limit in let same = c.in-Ok.bytes.ok in omega (arith, limit, same))
    (said {A = Timetable} (λ p. p) (plan_in c.args.inst.now.draft) c.as_slice.result.now c.in-Ok.bytes.items c.in-Err-Refused.field-0 c.in-Err-Refused.refusal c.as_slice.ensures.value
    c.in-Err-Refused.field-0-is c.in-Err-Refused.ensures.gives)))
