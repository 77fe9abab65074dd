use Rattle.ih_search_tests.specs.Followed.{StaysFollowed}
use Rattle.ih_search_tests.proofs.tests.desk.step_all.Given as goal

abbrev pub invariant-loop-line : goal.invariant-loop-line
invariant-loop-line g l = StaysFollowed l.desk l.fn.seat l.seat l.replica
