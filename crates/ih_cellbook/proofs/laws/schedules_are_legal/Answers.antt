use Rattle.ih_cellbook.proofs.Machine.{schedule-legal}
use Rattle.ih_cellbook.proofs.laws.schedules_are_legal.Goals as goal

pub returns : goal.returns
returns c b events same base may = schedule-legal b base events may
