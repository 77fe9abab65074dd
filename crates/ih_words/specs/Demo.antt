-- The command `demo`: its description for `clap` and its value.
use Rattle.std.specs.Prelude.{ℕ, List, Option, Some, codes}
use Rattle.clap.specs.Words.{App, Row, new_app, with_rule}
use Rattle.ih_arguments.specs.Arguments.{named_number}
use Rattle.ih_arguments.specs.Matches.{number_at}

-- demo NUMBER
unfoldable pub demo_app : App
demo_app = with_rule (new_app (codes "demo")) (named_number (codes "NUMBER"))

-- the number of a call of demo, by `clap`'s matches; each is lawful
abbrev pub lawful_demo : List Row → Option ℕ
lawful_demo rows = Some (number_at (codes "NUMBER") rows)
