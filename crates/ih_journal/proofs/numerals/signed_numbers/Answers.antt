use Rattle.std.proofs.Common.{arith, ◌≤◌, ◌∙◌, sym, length, take}
use Rattle.std.specs.Fmt.{signed_decimal}
use Rattle.std.proofs.lemmas.Grind.{common_steps}
use Rattle.ih_journal.specs.Pieces.{IsSmall}
use Rattle.ih_journal.proofs.NumberLists.{not_texts, too_many}
use Rattle.ih_journal.proofs.Separators.{parted_some}
use Rattle.ih_journal.proofs.numerals.signed_numbers.Goals as goal

pub returns-in_err-out-clause-none : goal.returns-in_err-out-clause-none
returns-in_err-out-clause-none c =
    rw c.from_residual.ensures
    (λ zs len all e.
    let texts = rw c.cut.ensures at c.loop-i.invariant.texts in
    not_texts signed_decimal IsSmall (take c.loop-i.i c.loop-i.out) zs _ _
    (λ z small is. c.in_err-out.ensures.none z small is) all (sym texts ∙ e))

pub returns-clause-none : goal.returns-clause-none
returns-clause-none c = λ zs len all e.
    let long : length zs ≤ length (take c.loop-i.i c.loop-i.out) = grind (arith, common_steps) in
    too_many signed_decimal (take c.loop-i.i c.loop-i.out) zs _ long (parted_some 44 c.loop-i.left.now) (sym c.loop-i.invariant.texts ∙ e)
