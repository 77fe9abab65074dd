-- The template with data in its place.
use Rattle.std.specs.Prelude.{ℕ, List, ◌++◌}
use Rattle.ih_template.specs.declared.template.TheConstants.{HEAD, TAIL}
use Rattle.ih_template.specs.Escapes.{escaped}

-- a text of JSON in its place in the template
abbrev pub in_template : List ℕ → List ℕ
in_template text = HEAD.now ++ (escaped text ++ TAIL.now)
