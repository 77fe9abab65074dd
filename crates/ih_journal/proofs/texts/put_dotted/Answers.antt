use Rattle.std.proofs.Common.{◌++◌, ◌∙◌, ap, List, ℕ, take, map, decimal}
use Rattle.ih_journal.specs.Pieces.{marked}
use Rattle.ih_journal.proofs.LinePieces.{dotted-pieces}
use Rattle.ih_journal.proofs.texts.put_dotted.Goals as goal

pub returns-clause-text : goal.returns-clause-text
returns-clause-text c =
    c.put_marked.ensures.text
    ∙ ap (λ (text : List ℕ). text ++ marked 46 (map decimal c.args.numbers.now)) c.put_text-end.ensures.text
    ∙ dotted-pieces (take c.args.at c.args.buffer.now) c.args.name.now c.args.numbers.now
