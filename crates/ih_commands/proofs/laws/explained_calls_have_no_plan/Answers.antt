use Rattle.ih_commands.proofs.NoPlan.{none-feasible}
use Rattle.ih_commands.proofs.laws.explained_calls_have_no_plan.Goals as goal

pub returns : goal.returns
returns c = none-feasible
