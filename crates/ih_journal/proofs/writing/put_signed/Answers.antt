use Rattle.std.proofs.Common.{arith, ◌≡◌, ◌∷◌, [], ◌++◌, ◌∙◌, List, ℕ, sym, ap, take, decimal, pos, w64, to_z}
use Rattle.std.proofs.lemmas.Fmt.{decimal_digit}
use Rattle.std.proofs.lemmas.Int.{to_z-of_z}
use Rattle.std.specs.Fmt.{signed_decimal}
use Rattle.ih_journal.proofs.writing.put_signed.Goals as goal

pub returns-then-value-eq0-clause-text : goal.returns-then-value-eq0-clause-text
returns-then-value-eq0-clause-text c =
    let is-zero : c.args.value ≡ pos 0 = sym (to_z-of_z w64 c.args.value c.ranges.value) ∙ ap (to_z w64) c.if-value-eq0.true in
    let zero-text : 48 ∷ [] ≡ decimal 0 = sym (decimal_digit 0 (omega arith)) in
    let put : take c.put_byte.result c.put_byte.new.buffer ≡ take c.args.at c.args.buffer.now ++ 48 ∷ [] = c.put_byte.ensures.text in
    put ∙ (ap (λ (ds : List ℕ). take c.args.at c.args.buffer.now ++ ds) zero-text ∙ ap (λ x. take c.args.at c.args.buffer.now ++ signed_decimal x) (sym is-zero))
