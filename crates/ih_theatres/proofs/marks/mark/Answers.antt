use Rattle.ih_theatres.proofs.MarkLemmas.{marked-more}
use Rattle.ih_theatres.proofs.marks.mark.Goals as goal

pub returns-in-Some : goal.returns-in-Some
returns-in-Some c = λ i. rw c.in-Some.is (marked-more c.args.marks c.in-Some.m.0 (rw c.in-Some.is at c.requires) i)
