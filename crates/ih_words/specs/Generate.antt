-- The command `gen`: its description for `clap` and its values.
use Rattle.std.specs.Prelude.{ℕ, List, Option, Some, codes}
use Rattle.clap.specs.Words.{App, Row, Text, new_app, with_rule}
use Rattle.ih_arguments.specs.Arguments.{named, named_number}
use Rattle.ih_arguments.specs.Matches.{number_at, text_at}
use Rattle.ih_words.specs.declared.generate.Gen.{Gen}

-- gen NUMBER OUT
unfoldable pub gen_app : App
gen_app = with_rule (with_rule (new_app (codes "gen"))
    (named_number (codes "NUMBER"))) (named (codes "OUT"))

-- what a call of gen asks for; a file's name is its bytes
pub record GenCall : Type 0 where
  pub number : ℕ
  pub out : Text

-- the call that the values of gen stand for
abbrev pub gen_call : Gen → GenCall
gen_call g = record { number = g.number; out = g.out.now }

-- the call of gen, by `clap`'s matches
abbrev pub gen_in : List Row → GenCall
gen_in rows = record { number = number_at (codes "NUMBER") rows; out = text_at (codes "OUT") rows }

-- each call of gen is lawful
abbrev pub lawful_gen : List Row → Option GenCall
lawful_gen rows = Some (gen_in rows)
