use Rattle.std.proofs.Common.{◌++◌, ◌∙◌, ap, take, List, ℕ, sym}
use Rattle.ih_journal.proofs.LinePieces.{four-zeros}
use Rattle.ih_journal.proofs.texts.put_four.Goals as goal

pub returns-then-are_zero-clause-text : goal.returns-then-are_zero-clause-text
returns-then-are_zero-clause-text c =
    c.put_text.ensures.text
    ∙ ap (λ (ds : List ℕ). take c.args.at c.args.buffer.now ++ ds) (sym (four-zeros c.args.numbers.now (c.are_zero.ensures c.if-are_zero.true)))
