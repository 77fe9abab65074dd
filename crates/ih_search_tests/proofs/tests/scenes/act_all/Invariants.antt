use Rattle.std.proofs.Common.{◌≡◌}
use Rattle.ih_search_tests.proofs.tests.scenes.act_all.Given as goal

abbrev pub invariant-loop-part : goal.invariant-loop-part
invariant-loop-part l = l.book.base ≡ l.fn.book.base
