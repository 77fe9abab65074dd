use Rattle.ih_journal.specs.Names.{cell_name, cell_numbers}
use Rattle.ih_journal.proofs.CellTexts.{cell_dotted, read_some, read_none}
use Rattle.ih_journal.proofs.reading.spelled_cell.Goals as goal

pub returns-in_err-name-clause-none : goal.returns-in_err-name-clause-none
returns-in_err-name-clause-none c =
    rw c.from_residual.ensures
    (λ cell short is.
    let dotted = cell_dotted cell c.args.bytes.now short is in
    c.in_err-name.ensures.none (cell_name cell) (cell_numbers cell) dotted.few dotted.cut)

pub returns-clause-some : goal.returns-clause-some
returns-clause-some c = rw c.cell_named.ensures (read_some _ _ _ c.in_ok-name.ensures.some.1)

pub returns-clause-none : goal.returns-clause-none
returns-clause-none c = rw c.cell_named.ensures (read_none _ _ _ c.in_ok-name.ensures.some.1)
