use Rattle.std.proofs.Common.{◌∙◌, [], ap, List, Option, map}
use Rattle.std.proofs.lemmas.Result.{IfOk-weaker}
use Rattle.std.specs.Prelude.{unwrap_or}
use Rattle.clap.specs.Words.{Text, found_of}
use Rattle.clap.proofs.WalkLemmas.{raw_values-rows}
use Rattle.ih_arguments.proofs.matches.texts_of.Goals as goal

-- what is read of the matches, through the rows that they stand for
pub returns-in-None : goal.returns-in-None
returns-in-None c =
    ap (map (λ t. t.now)) c.new.ensures.items ∙ ap (λ (o : Option (List Text)). unwrap_or o []) (c.in-None.ensures ∙ raw_values-rows (found_of c.args.matches.now) c.args.id.now)

pub returns-in-Some : goal.returns-in-Some
returns-in-Some c =
    IfOk-weaker c.from_slice.result _ _
    (λ texts same. ap (map (λ t. t.now)) same
    ∙ ap (λ (o : Option (List Text)). unwrap_or o []) (c.in-Some.ensures ∙ raw_values-rows (found_of c.args.matches.now) c.args.id.now))
    c.from_slice.ensures.items
