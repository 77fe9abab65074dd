use Rattle.ih_roomdays.proofs.Vacant.{vacant}
use Rattle.ih_roomdays.proofs.room_lists.RoomLists.new.Goals as goal

pub returns : goal.returns
returns c =
    vacant (record { links = c.in_ok-links.links; rooms = c.args.rooms; days = c.args.days; persons = c.args.persons; profiles = c.args.profiles; crowds = c.in_ok-crowds.crowds })
    c.requires.places c.requires.few_persons c.requires.profiles c.in_ok-links.ensures (c.in_ok-crowds.ensures.items_if_clones_equal (λ y e. e))
