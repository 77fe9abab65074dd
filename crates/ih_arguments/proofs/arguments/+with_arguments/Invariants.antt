use Rattle.std.proofs.Common.{length}
use Rattle.ih_arguments.proofs.arguments.+with_arguments.Given as goal

-- the arguments that are left
abbrev pub decreases-with_arguments : goal.decreases-with_arguments
decreases-with_arguments l = length l.arguments.now
