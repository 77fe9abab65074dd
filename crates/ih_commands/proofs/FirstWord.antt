-- First words that are a command's name.
use Rattle.std.proofs.Common.{◌≡◌, ap, List, map, Option, Some, None, Global, String, string_bytes}
use Rattle.std.specs.Prelude.{slice_get}
use Rattle.std.specs.Option.{option_map_or}
use Rattle.ih_commands.specs.Below.Arguments.{Text}
use Rattle.ih_arguments.proofs.FirstWords.{first_name, no_first}
use Rattle.ih_commands.specs.Calls.{app_for, app_named, program_app}

-- words whose first is a name are explained by the description of that name's command
pub explained_by_name : (words : List (String Global)) {s : String Global} {name : Text} → slice_get words 0 ≡ Some s → name ≡ string_bytes s
    → app_for (map string_bytes words) ≡ app_named name
unfolding app_for
explained_by_name words first told = ap (λ (o : Option Text). option_map_or app_named o program_app) (first_name words first told)

-- no words are explained by all commands
pub explained_by_all : (words : List (String Global)) → slice_get words 0 ≡ None → app_for (map string_bytes words) ≡ program_app
unfolding app_for
explained_by_all words none =
    ap (λ (o : Option Text). option_map_or app_named o program_app) (no_first words none)
