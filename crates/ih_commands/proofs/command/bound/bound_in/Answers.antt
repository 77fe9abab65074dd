use Rattle.ih_commands.specs.Below.Arguments.{found_of, rows_of}
use Rattle.ih_commands.proofs.SettingsRead.{workers-within}
use Rattle.ih_commands.proofs.command.bound.bound_in.Goals as goal

pub returns-clause-few : goal.returns-clause-few
returns-clause-few c =
    rw (c.unwrap_or-2.ensures, c.number_if_given-2.ensures) (workers-within (rows_of (found_of c.args.matches.now)) c.requires.workers)
