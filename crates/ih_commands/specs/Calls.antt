-- The calls of the program: each list has a line for each command.
use Rattle.std.specs.Prelude.{◌≡◌, ◌⊎◌, true, List, Option, None, codes, if◌then◌else◌, option_map, slice_get}
use Rattle.std.specs.Option.{option_map_or}
use Rattle.std.specs.Str.{bytes_eq}
use Rattle.ih_commands.specs.Below.Arguments.{App, Text, by_first_word, call_by, new_app, on_top, with_subcommand}
use Rattle.ih_commands.specs.Below.Endings.{Done, Given, Infeasible, InputFiles, OutOfMemory, OutcomeState, Status}
use Rattle.ih_commands.specs.Calls.Bound.{BoundCall, HasFewWorkers, IsBounded, bound_app, bound_call, bound_inputs, lawful_bound}
use Rattle.ih_commands.specs.Calls.Carry.{CarryCall, IsCarriedOver, carry_app, carry_call, carry_inputs, lawful_carry}
use Rattle.ih_commands.specs.Calls.Check.{CheckCall, IsChecked, check_app, check_call, check_inputs, lawful_check}
use Rattle.ih_commands.specs.Calls.Improve.{improve_app, lawful_improve}
use Rattle.ih_optimizer.specs.Call.{ImproveCall, IsLawfulCall, improve_call, improve_inputs}
use Rattle.ih_optimizer.specs.Searching.{IsImproveAnswered}
use Rattle.ih_commands.specs.Calls.Table.{IsTabled, TableCall, lawful_table, table_app, table_call, table_inputs}
use Rattle.ih_commands.specs.Calls.View.{IsViewed, ViewCall, lawful_view, view_app, view_call, view_inputs}
use Rattle.ih_commands.specs.Calls.Why.{HasFewToAsk, IsExplained, WhyCall, lawful_why, why_app, why_call, why_inputs}
use Rattle.ih_commands.specs.declared.command.Command.{Command}
use Rattle.ih_commands.specs.declared.command.Command.TheVariants.{Bound as BoundCommand, Carry as CarryCommand, Check as CheckCommand, Improve as ImproveCommand, Table as TableCommand, View as ViewCommand, Why as WhyCommand}
pub mod Bound
pub mod Carry
pub mod Check
pub mod Days
pub mod Improve
pub mod Table
pub mod View
pub mod Why
pub mod Worded

-- a call of one of the commands
pub data Call : Type 0 where
  improve : ImproveCall → Call
  view : ViewCall → Call
  bound : BoundCall → Call
  check : CheckCall → Call
  carry : CarryCall → Call
  table : TableCall → Call
  why : WhyCall → Call

-- the call that a command's values stand for
abbrev pub command_call : Command → Call
command_call (ImproveCommand i) = improve (improve_call i)
command_call (ViewCommand v) = view (view_call v)
command_call (BoundCommand b) = bound (bound_call b)
command_call (CheckCommand c) = check (check_call c)
command_call (CarryCommand c) = carry (carry_call c)
command_call (TableCommand t) = table (table_call t)
command_call (WhyCommand w) = why (why_call w)

-- the settings of a search, where the command has them, are within their limits, and so are its workers
abbrev pub HasLawfulSettings : Command → Type 0
HasLawfulSettings (ImproveCommand i) = IsLawfulCall (improve_call i)
HasLawfulSettings (BoundCommand b) = HasFewWorkers b
HasLawfulSettings (WhyCommand w) = HasFewToAsk w
HasLawfulSettings command = Unit {0}

-- ---- the words that name them

-- all commands, by which `clap` explains words of which the first is no command's name
unfoldable pub program_app : App
program_app =
    with_subcommand (with_subcommand (with_subcommand (with_subcommand (with_subcommand (with_subcommand (with_subcommand
    (on_top (λ s. record s { no_binary_name = true; subcommand_required = true; arg_required_else_help = true })
    (new_app (codes "ih_planner")))
    improve_app.top)
    view_app.top)
    bound_app.top)
    check_app.top)
    carry_app.top)
    table_app.top)
    why_app.top

-- the description of the command with this name, by which `clap` reads and explains the words
abbrev pub app_named : Text → App
app_named name =
    if bytes_eq name (codes "improve") then improve_app
    else (if bytes_eq name (codes "view") then view_app
    else (if bytes_eq name (codes "bound") then bound_app
    else (if bytes_eq name (codes "check") then check_app
    else (if bytes_eq name (codes "carry") then carry_app
    else (if bytes_eq name (codes "table") then table_app
    else (if bytes_eq name (codes "why") then why_app
    else program_app))))))

-- the description of the command that the first word names, by which `clap` reads the words; else of the program
unfoldable pub app_for : List Text → App
app_for words = option_map_or app_named (slice_get words 0) program_app

-- the call of the command with this name
abbrev pub call_named : Text → List Text → Option Call
call_named name words =
    if bytes_eq name (codes "improve") then option_map improve (call_by improve_app lawful_improve words)
    else (if bytes_eq name (codes "view") then option_map view (call_by view_app lawful_view words)
    else (if bytes_eq name (codes "bound") then option_map bound (call_by bound_app lawful_bound words)
    else (if bytes_eq name (codes "check") then option_map check (call_by check_app lawful_check words)
    else (if bytes_eq name (codes "carry") then option_map carry (call_by carry_app lawful_carry words)
    else (if bytes_eq name (codes "table") then option_map table (call_by table_app lawful_table words)
    else (if bytes_eq name (codes "why") then option_map why (call_by why_app lawful_why words)
    else None))))))

-- the call that the words name, where they are lawful: the first word is the command's name
unfoldable pub call_of : List Text → Option Call
call_of words = by_first_word call_named words

-- ---- what they do

-- the files that a call reads
abbrev pub inputs_of : Call → InputFiles
inputs_of (improve c) = improve_inputs c
inputs_of (view v) = view_inputs v
inputs_of (bound b) = bound_inputs b
inputs_of (check c) = check_inputs c
inputs_of (carry c) = carry_inputs c
inputs_of (table t) = table_inputs t
inputs_of (why w) = why_inputs w

-- what a call comes to that has one outcome: improve has one for each round
abbrev pub comes_to : Call → Given → OutcomeState → Type 0
comes_to (improve c) = λ g o. ⊥
comes_to (view v) = IsViewed v
comes_to (bound b) = IsBounded b
comes_to (check c) = IsChecked
comes_to (carry c) = IsCarriedOver c
comes_to (table t) = IsTabled t
comes_to (why w) = IsExplained w

-- the answers of a call that has all that it needs
abbrev pub IsAnswered : Call → Status → Type 0
IsAnswered (improve c) status = IsImproveAnswered c status
IsAnswered (view v) status = (status ≡ Done) ⊎ (status ≡ OutOfMemory)
IsAnswered (bound b) status = (status ≡ Done) ⊎ (status ≡ Infeasible) ⊎ (status ≡ OutOfMemory)
IsAnswered (check c) status = (status ≡ Done) ⊎ (status ≡ Infeasible) ⊎ (status ≡ OutOfMemory)
IsAnswered (carry c) status = (status ≡ Done) ⊎ (status ≡ OutOfMemory)
IsAnswered (table t) status = (status ≡ Done) ⊎ (status ≡ OutOfMemory)
IsAnswered (why w) status = (status ≡ Done) ⊎ (status ≡ Infeasible) ⊎ (status ≡ OutOfMemory)
