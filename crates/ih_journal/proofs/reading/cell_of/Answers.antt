use Rattle.std.proofs.Common.{◌∙◌, sym}
use Rattle.ih_plan.specs.Cells.{IsCellOf}
use Rattle.ih_journal.proofs.InRange.{limits, cell_short}
use Rattle.ih_journal.proofs.CellTexts.{cells_differ}
use Rattle.ih_journal.proofs.Spelling.{no_other}
use Rattle.ih_journal.proofs.reading.cell_of.Goals as goal

pub returns-else-has_cell-clause-none : goal.returns-else-has_cell-clause-none
returns-else-has_cell-clause-none c = λ cell inside is.
    let read = c.in_ok-cell.ensures.some in
    let same = cells_differ c.in_ok-cell.cell cell read.1 (cell_short c.args.inst.now.draft cell (limits c.args.inst.now.draft c.args.inst.now.valid) inside) (sym read.0 ∙ is) in
    no_other (IsCellOf c.args.inst.now.draft) same c.if-has_cell.ensures.1 inside
