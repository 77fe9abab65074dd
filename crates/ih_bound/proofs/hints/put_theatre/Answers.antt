use Rattle.ih_bound.proofs.hints.put_theatre.Goals as goal

pub returns : goal.returns
returns c = rw c.theatre_id.ensures at c.put_id.ensures
