use Rattle.ih_sheet.proofs.ReadBack.{table-read-back}
use Rattle.ih_sheet.proofs.laws.tables_read_back.Goals as goal

pub returns : goal.returns
returns c = λ dates P. table-read-back c.args._inst.now.draft dates P c.args._of
