use Rattle.std.proofs.Common.{codes, refl}
use Rattle.ih_commands.specs.Below.Wards.{MAX_WORKERS}
use Rattle.ih_commands.specs.Below.Arguments.{optional_between}
use Rattle.ih_arguments.proofs.DescriptionRules.{takes_between}
use Rattle.ih_commands.specs.Calls.Bound.{bound_app}
use Rattle.ih_commands.specs.declared.command.bound.TheConstants.{MAX_BOUND_ROUNDS}
use Rattle.ih_commands.proofs.command.bound.BoundWorded.of_matches.Goals as goal

pub bound_in-requires : goal.bound_in-requires
unfolding bound_app
bound_in-requires c = record {
  rounds = c.requires.1.optional 2 (optional_between (codes "rounds") 1 MAX_BOUND_ROUNDS) 1 MAX_BOUND_ROUNDS (takes_between refl);
  workers = c.requires.1.optional 3 (optional_between (codes "workers") 1 MAX_WORKERS) 1 MAX_WORKERS (takes_between refl);
}
