use Rattle.std.proofs.Common.{length}
use Rattle.ih_arguments.proofs.arguments.+with_commands.Given as goal

-- the commands that are left
abbrev pub decreases-with_commands : goal.decreases-with_commands
decreases-with_commands l = length l.commands.now
