use Rattle.std.proofs.Common.{arith, ◌<◌, ◌≤◌, ◌^◌, ◌∙◌, sym, length, take, decimal}
use Rattle.std.proofs.lemmas.Grind.{common_steps}
use Rattle.ih_journal.proofs.NumberLists.{not_texts, too_many}
use Rattle.ih_journal.proofs.Separators.{parted_some}
use Rattle.ih_journal.proofs.numerals.numbers.Goals as goal

pub returns-in_err-out-clause-none : goal.returns-in_err-out-clause-none
returns-in_err-out-clause-none c =
    rw c.from_residual.ensures
    (λ ns len all e.
    let texts = rw c.cut.ensures at c.loop-i.invariant.texts in
    not_texts decimal (λ n. n < 2 ^ 32) (take c.loop-i.i c.loop-i.out) ns _ _
    (λ n small is. c.in_err-out.ensures.none n (omega arith) is) all (sym texts ∙ e))

pub returns-clause-none : goal.returns-clause-none
returns-clause-none c = λ ns len all e.
    let long : length ns ≤ length (take c.loop-i.i c.loop-i.out) = grind (arith, common_steps) in
    too_many decimal (take c.loop-i.i c.loop-i.out) ns _ long (parted_some c.args.separator c.loop-i.left.now) (sym c.loop-i.invariant.texts ∙ e)
