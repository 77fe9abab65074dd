use Rattle.std.proofs.Common.{◌≡◌, ◌∙◌, ap, refl, true}
use Rattle.std.proofs.lemmas.Result.{IfOk-weaker}
use Rattle.ih_commands.specs.Below.Arguments.{App, Shape, app_of, app_of_fields, on_top, with_subcommand}
use Rattle.clap.specs.declared.builder.command.Command.{Command}
use Rattle.clap.proofs.OnLiterals.{clap_on_literals}
use Rattle.ih_commands.specs.Calls.Bound.{bound_app}
use Rattle.ih_commands.specs.Calls.{program_app}
use Rattle.ih_commands.specs.Calls.Carry.{carry_app}
use Rattle.ih_commands.specs.Calls.Check.{check_app}
use Rattle.ih_commands.specs.Calls.Improve.{improve_app}
use Rattle.ih_commands.specs.Calls.Table.{table_app}
use Rattle.ih_commands.specs.Calls.View.{view_app}
use Rattle.ih_commands.specs.Calls.Why.{why_app}
use Rattle.ih_commands.proofs.command.program_description.Goals as goal

pub returns-clause-simple : goal.returns-clause-simple
unfolding clap_on_literals program_app improve_app view_app bound_app check_app carry_app table_app why_app
returns-clause-simple c = refl

-- a program with all commands
abbrev with_all : App → App
with_all a =
    with_subcommand (with_subcommand (with_subcommand (with_subcommand (with_subcommand (with_subcommand (with_subcommand a improve_app.top) view_app.top) bound_app.top)
    check_app.top) carry_app.top) table_app.top) why_app.top

from-base : (old new : App) (r : Command) → old ≡ new → app_of r ≡ with_all old → app_of r ≡ with_all new
from-base old new r is h = h ∙ ap with_all is

pub returns-clause-app : goal.returns-clause-app
unfolding program_app improve_app view_app bound_app check_app carry_app table_app why_app
returns-clause-app c =
    let about = ap app_of_fields c.about.ensures ∙ c.new.ensures.app in
    let nameless = ap app_of_fields c.no_binary_name.ensures ∙ ap (on_top (λ (s : Shape). record s { no_binary_name = true })) about in
    let required = ap app_of_fields c.subcommand_required.ensures ∙ ap (on_top (λ (s : Shape). record s { subcommand_required = true })) nameless in
    let empty = ap app_of_fields c.arg_required_else_help-empty.ensures
    ∙ ap (on_top (λ (s : Shape). record s { arg_required_else_help = true })) required in
    IfOk-weaker c.with_commands.result _ (λ r. app_of r ≡ program_app) (λ r h. from-base _ _ r empty h) c.with_commands.ensures
