use Rattle.std.proofs.Common.{◌<◌, subst, sym}
use Rattle.ih_tables.specs.Sizes.{person_count}
use Rattle.ih_proposals.proofs.Persons.{person-known}
use Rattle.ih_proposals.proofs.room_days.person_at.Goals as goal

pub returns : goal.returns
returns c =
    subst (λ x. x < person_count c.args.inst.now.draft) (sym c.member.ensures)
    (person-known c.args.inst.now.draft c.requires.stands.0 c.args.rooms.now c.args.there.room.0 c.args.there.day.0 c.args.index c.requires.stands.1 c.requires.there.day c.requires.place)
