use Rattle.ih_carry.proofs.handovers.Handover.put_said.Goals as goal

pub returns-in-Lying : goal.returns-in-Lying
returns-in-Lying c = rw c.in-Lying.is (rw c.person_id.ensures at c.put_named-in-Lying.ensures)
