use Rattle.ih_footprint.proofs.Ranked.{cell_in-in, number_in-cell_in}
use Rattle.ih_footprint.proofs.numbering.Numbering.cell.Goals as goal

pub returns-clause-inside : goal.returns-clause-inside
returns-clause-inside c = rw c.cell_by_kind.ensures (cell_in-in c.args.self.now c.args.number c.requires)

pub returns-clause-back : goal.returns-clause-back
returns-clause-back c = rw c.cell_by_kind.ensures (number_in-cell_in c.args.self.now c.args.number c.requires)
