use Rattle.ih_solution.proofs.reader.nurses.Reader.assignments.Goals as goal

pub returns-clause-gives : goal.returns-clause-gives
returns-clause-gives c = rw (← c.in_ok-value.ensures, ← c.key-at.ensures, c.in_ok-items.ensures.gives) c.each_assignment.ensures.gives
