use Rattle.ih_theatres.proofs.MarkLemmas.{count-marked}
use Rattle.ih_theatres.proofs.marks.count_marked.Goals as goal

pub returns-clause-count : goal.returns-clause-count
returns-clause-count c = λ n few none. count-marked c.args.marks 64 n c.ranges.marks.fits few none
