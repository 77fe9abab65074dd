use Rattle.std.proofs.Common.{refl}
use Rattle.clap.proofs.OnLiterals.{clap_on_literals}
use Rattle.ih_arguments.specs.Distinct.{all_differ}
use Rattle.ih_arguments.proofs.FirstWords.{other}
use Rattle.ih_commands.specs.Calls.Bound.{bound_app}
use Rattle.ih_commands.specs.Calls.Carry.{carry_app}
use Rattle.ih_commands.specs.Calls.Check.{check_app}
use Rattle.ih_commands.specs.Calls.Improve.{improve_app}
use Rattle.ih_commands.specs.Calls.Table.{table_app}
use Rattle.ih_commands.specs.Calls.View.{view_app}
use Rattle.ih_commands.specs.Calls.Why.{why_app}
use Rattle.ih_commands.proofs.command.read_named.Goals as goal

-- the descriptions are those of the commands
pub read_call-requires : goal.read_call-requires
unfolding clap_on_literals improve_app all_differ
read_call-requires c = λ k. ((refl, tt), record { shape = refl; simple = refl; independent = refl })

pub read_call-requires-in-view : goal.read_call-requires-in-view
unfolding clap_on_literals view_app all_differ
read_call-requires-in-view c = λ k. ((refl, tt), record { shape = refl; simple = refl; independent = refl })

pub read_call-requires-in-bound : goal.read_call-requires-in-bound
unfolding clap_on_literals bound_app all_differ
read_call-requires-in-bound c = λ k. ((refl, tt), record { shape = refl; simple = refl; independent = refl })

pub read_call-requires-in-check : goal.read_call-requires-in-check
unfolding clap_on_literals check_app all_differ
read_call-requires-in-check c = λ k. ((refl, tt), record { shape = refl; simple = refl; independent = refl })

pub read_call-requires-in-carry : goal.read_call-requires-in-carry
unfolding clap_on_literals carry_app all_differ
read_call-requires-in-carry c = λ k. ((refl, tt), record { shape = refl; simple = refl; independent = refl })

pub read_call-requires-in-table : goal.read_call-requires-in-table
unfolding clap_on_literals table_app all_differ
read_call-requires-in-table c = λ k. ((refl, tt), record { shape = refl; simple = refl; independent = refl })

pub read_call-requires-in-why : goal.read_call-requires-in-why
unfolding clap_on_literals why_app all_differ
read_call-requires-in-why c = λ k. ((refl, tt), record { shape = refl; simple = refl; independent = refl })

-- a name that is no command's
pub returns-in_default-clause-read : goal.returns-in_default-clause-read
returns-in_default-clause-read c =
    rw (
      other c.args.name.now _ c.in_default.not-improve,
      other c.args.name.now _ c.in_default.not-view,
      other c.args.name.now _ c.in_default.not-bound,
      other c.args.name.now _ c.in_default.not-check,
      other c.args.name.now _ c.in_default.not-carry,
      other c.args.name.now _ c.in_default.not-table,
      other c.args.name.now _ c.in_default.not-why,
    ) (λ e. refl, c.explained_commands.ensures)
