use Rattle.std.proofs.Common.{◌∙◌, ap}
use Rattle.std.specs.Prelude.{unsigned_abs}
use Rattle.ih_tables.specs.declared.bills.Bill.{Bill}
use Rattle.ih_plan.specs.Cells.{part_at}
use Rattle.ih_page.specs.Findings.{number_in}
use Rattle.ih_page.proofs.FindingSums.{counted}
use Rattle.ih_page.proofs.findings.amount.Goals as goal

pub returns : goal.returns
returns c =
    let l = c.args.line in
    c.magnitude.ensures
    ∙ ap unsigned_abs (ap (λ (b : Bill). number_in b l) c.part.ensures
    ∙ counted (part_at c.args.ledgers.now.instance c.args.ledgers.now.plan c.args.cell) l)
