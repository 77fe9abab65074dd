use Rattle.std.proofs.Common.{rules, ◌∙◌}
use Rattle.ih_tables.specs.Sizes.{patient_count}
use Rattle.ih_validate.specs.Surgery.{has_surgery, is_patient_of}
use Rattle.ih_validate.proofs.ListLemmas.{all-among, operated-among}
use Rattle.ih_validate.proofs.surgery.list_today.Goals as goal

pub list_among-requires-clause-callable : goal.list_among-requires-clause-callable
list_among-requires-clause-callable c =
    let I = c.args.inst.now.draft in
    let own = all-among (patient_count I) (is_patient_of I c.args.plan.now c.args.resource) c.args.own.now c.requires.own in
    (patient_count I, own, λ i known. search rules)

pub returns : goal.returns
returns c =
    let I = c.args.inst.now.draft in
    c.list_among.ensures (has_surgery I c.args.plan.now c.args.resource c.args.day) (search rules)
    ∙ rw c.requires.own (operated-among I c.args.plan.now c.args.resource c.args.day)
