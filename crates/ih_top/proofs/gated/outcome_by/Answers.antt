use Rattle.ih_top.proofs.gated.outcome_by.Goals as goal

pub returns-in-Search-clause-comes : goal.returns-in-Search-clause-comes
returns-in-Search-clause-comes g c = rw c.in-Search.is c.searched.ensures.comes
