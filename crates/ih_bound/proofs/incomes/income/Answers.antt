use Rattle.std.proofs.Common.{arith}
use Rattle.ih_bound.specs.Tariffs.{income}
use Rattle.ih_bound.proofs.incomes.income.Goals as goal

pub returns : goal.returns
unfolding income
returns c =
    omega (arith, c.bed_income.ensures, c.surgeon_income.ensures, c.theatre_income.ensures, c.work_income.ensures, c.saturating_add.ensures, c.saturating_add-2.ensures, c.saturating_add-3.ensures)
