use Rattle.ih_instance.proofs.people.People.patients.Goals as goal

pub returns : goal.returns
returns c = rw (← c.args.self.now.groups_by_name.same, ← c.args.self.now.surgeons_by_name.same, ← c.args.self.now.rooms_by_name.same) c.listed.ensures
