use Rattle.std.proofs.Common.{◌∙◌, ap, arith, subst, sym}
use Rattle.ih_tables.specs.declared.refusals.Refusal.{Refusal}
use Rattle.ih_instance.specs.Instance.{instance}
use Rattle.ih_inputs.specs.declared.error.Refused.{Refused}
use Rattle.ih_inputs.specs.Errors.{instance_refused_as}
use Rattle.ih_inputs.specs.Reading.{IsNoInstance}
use Rattle.ih_tables.specs.declared.instances.Instance.{Instance}
use Rattle.ih_inputs.proofs.Unread.{no-instance, refused-by, said}
use Rattle.ih_inputs.proofs.reading.read_instance_file.Goals as goal

pub returns-in-Err-Refused-clause-unread : goal.returns-in-Err-Refused-clause-unread
returns-in-Err-Refused-clause-unread g c =
    let files = g.S.Shelf.names c.args.shelf.now in
    let of : Refusal → Refused = λ e. record { refusal = e; bytes = c.in-Ok.bytes } in
    subst (IsNoInstance c.args.role files c.args.name.now) (sym (c.instance_refused_as.ensures ∙ ap (λ (e : Refusal). instance_refused_as c.args.role (of e)) c.in-Err-Refused.refusal-is))
    (no-instance files c.args.name.now (of c.in-Err-Refused.refusal) c.args.role
    (refused-by files c.args.name.now (of c.in-Err-Refused.refusal) instance c.in-Ok.ensures.bytes
    (let limit = c.in-Ok.ensures.limit in let same = c.in-Ok.bytes.ok in omega (arith, limit, same))
    (said {A = Instance} (λ i. i.draft) instance c.as_slice.result.now c.in-Ok.bytes.items c.in-Err-Refused.field-0 c.in-Err-Refused.refusal c.as_slice.ensures.value
    c.in-Err-Refused.field-0-is c.in-Err-Refused.ensures.gives)))
