use Rattle.ih_footprint.proofs.Ranked.{number_in-in, cell_in-number_in}
use Rattle.ih_footprint.proofs.numbering.Numbering.number.Goals as goal

pub returns-clause-below : goal.returns-clause-below
returns-clause-below c = rw c.number_by_kind.ensures (number_in-in c.args.self.now c.args.cell c.requires)

pub returns-clause-back : goal.returns-clause-back
returns-clause-back c = rw c.number_by_kind.ensures (cell_in-number_in c.args.self.now c.args.cell c.requires)
