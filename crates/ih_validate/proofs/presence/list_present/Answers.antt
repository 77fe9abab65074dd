use Rattle.std.proofs.Common.{rules, ◌∙◌}
use Rattle.ih_tables.specs.Sizes.{person_count}
use Rattle.ih_plan.specs.Presence.{is_present, room_of}
use Rattle.ih_plan.specs.Costs.{is_number}
use Rattle.ih_plan.proofs.BillBounds.{few-persons}
use Rattle.ih_validate.proofs.ListLemmas.{all-among, few-among, present-residents}
use Rattle.ih_validate.proofs.presence.list_present.Goals as goal

pub list_among-requires-clause-few : goal.list_among-requires-clause-few
list_among-requires-clause-few c =
    few-among (person_count c.args.inst.now.draft) (λ x. is_number (room_of c.args.inst.now.draft c.args.plan.now x) c.args.room.0) c.args.residents.now c.requires.residents
    (few-persons c.args.inst.now.draft c.args.inst.now.valid)

pub list_among-requires-clause-callable : goal.list_among-requires-clause-callable
list_among-requires-clause-callable c = (
  person_count c.args.inst.now.draft,
  all-among (person_count c.args.inst.now.draft) (λ x. is_number (room_of c.args.inst.now.draft c.args.plan.now x) c.args.room.0) c.args.residents.now c.requires.residents,
  λ i known. search rules,
)

pub returns : goal.returns
returns c =
    c.list_among.ensures (is_present c.args.inst.now.draft c.args.plan.now c.args.room.0 c.args.day) (search rules)
    ∙ rw c.requires.residents (present-residents c.args.inst.now.draft c.args.plan.now c.args.room.0 c.args.day)
