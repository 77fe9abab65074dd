use Rattle.ih_bound.proofs.hints.put_surgeon.Goals as goal

pub returns : goal.returns
returns c = rw c.surgeon_id.ensures at c.put_id.ensures
