use Rattle.std.proofs.Common.{◌<◌}
use Rattle.std.proofs.lemmas.List.Elements.{All-same}
use Rattle.ih_tables.specs.Sizes.{person_count}
use Rattle.ih_plan.specs.Presence.{present}
use Rattle.ih_validate.proofs.ListLemmas.{present-persons}
use Rattle.ih_validate.proofs.shifts.missing_skill_on.Goals as goal

pub skill_missing-sum-requires-clause-persons : goal.skill_missing-sum-requires-clause-persons
skill_missing-sum-requires-clause-persons c =
    All-same (λ x. x < person_count c.args.inst.now.draft) c.args.here.now (present c.args.inst.now.draft c.args.plan.now c.args.room.0 c.args.day) c.requires.here
    (present-persons c.args.inst.now.draft c.args.plan.now c.args.room.0 c.args.day)
