use Rattle.std.proofs.Common.{arith, rules, ◌≡◌, ◌<◌, pos, drop, ◌-◌, ◌∙◌, length, take, get_or}
use Rattle.std.specs.Prelude.{FitsSigned}
use Rattle.std.specs.Int.{w64}
use Rattle.std.proofs.lemmas.Grind.{common_steps}
use Rattle.std.proofs.lemmas.Int.{to_z-of_z}
use Rattle.ih_journal.proofs.LinePieces.{price-pieces}
use Rattle.ih_journal.proofs.texts.put_price.Goals as goal

pub returns-clause-text : goal.returns-clause-text
returns-clause-text c =
    let some : 0 < length c.args.price.now.v = search rules in
    let fits : FitsSigned w64 (get_or c.args.price.now.v 0 (pos 0)) = search rules in
    let first = simp to_z-of_z at c.put_signed-end.ensures.text in
    let whole : take (length c.args.price.now.v - 1) (drop 1 c.args.price.now.v) ≡ drop 1 c.args.price.now.v = grind (arith, common_steps) in
    c.put_numbers.ensures.text
    ∙ rw (c.put_numbers-end.ensures.text, first, whole) (price-pieces (take c.args.at c.args.buffer.now) c.args.price.now.v c.args.price.now.s some)
