use Rattle.std.proofs.Common.{◌≡◌, ◌++◌, ◌∙◌, ◌-◌, ap, arith, length, length-drop, take, drop, map}
use Rattle.std.proofs.lemmas.List.{take_all}
use Rattle.std.specs.Fmt.{signed_decimal}
use Rattle.ih_journal.specs.Pieces.{marked}
use Rattle.ih_journal.proofs.LinePieces.{numbers-halves}
use Rattle.ih_journal.proofs.texts.put_numbers.Goals as goal

pub returns-clause-text : goal.returns-clause-text
returns-clause-text c =
    let before = take c.args.at c.args.buffer.now in
    let xs = c.args.numbers.now in
    let many = length-drop 4 xs in
    let rest : take (length xs - 4) (drop 4 xs) ≡ drop 4 xs = take_all (length xs - 4) (drop 4 xs) (omega arith) in
    let behind = ap (λ last. before ++ marked 44 (map signed_decimal (take 4 xs)) ++ marked 44 (map signed_decimal last)) rest in
    c.put_four.ensures.text ∙ rw c.put_four-end.ensures.text (behind ∙ numbers-halves before 4 xs)
