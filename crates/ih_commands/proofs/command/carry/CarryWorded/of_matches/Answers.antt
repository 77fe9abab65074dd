use Rattle.std.proofs.Common.{codes, refl}
use Rattle.ih_commands.specs.Below.Wards.{MAX_FREEZE}
use Rattle.ih_commands.specs.Below.Arguments.{optional_between}
use Rattle.ih_arguments.proofs.DescriptionRules.{takes_between}
use Rattle.ih_commands.specs.Calls.Carry.{carry_app}
use Rattle.ih_commands.proofs.command.carry.CarryWorded.of_matches.Goals as goal

pub carry_in-carry-requires : goal.carry_in-carry-requires
unfolding carry_app
carry_in-carry-requires c = c.requires.1.optional 4 (optional_between (codes "days") 0 MAX_FREEZE) 0 MAX_FREEZE (takes_between refl)
