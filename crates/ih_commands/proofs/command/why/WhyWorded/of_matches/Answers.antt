use Rattle.std.proofs.Common.{codes, refl}
use Rattle.ih_commands.specs.Below.Wards.{MAX_WORKERS}
use Rattle.ih_commands.specs.Below.Arguments.{optional_between}
use Rattle.ih_arguments.proofs.DescriptionRules.{takes_between}
use Rattle.ih_commands.specs.Calls.Why.{why_app}
use Rattle.ih_commands.proofs.command.why.WhyWorded.of_matches.Goals as goal

pub why_in-requires : goal.why_in-requires
unfolding why_app
why_in-requires c = c.requires.1.optional 2 (optional_between (codes "workers") 1 MAX_WORKERS) 1 MAX_WORKERS (takes_between refl)
