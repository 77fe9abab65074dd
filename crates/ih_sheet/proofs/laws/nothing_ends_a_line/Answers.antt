use Rattle.ih_sheet.proofs.PlainLines.{nothing-ends-a-line}
use Rattle.ih_sheet.proofs.laws.nothing_ends_a_line.Goals as goal

pub returns : goal.returns
returns c = λ dates P. nothing-ends-a-line c.args._inst.now.draft dates P
