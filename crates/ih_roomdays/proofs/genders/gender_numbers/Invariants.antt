use Rattle.ih_roomdays.proofs.GenderLemmas.{AreFirst}
use Rattle.ih_roomdays.proofs.genders.gender_numbers.Given as goal

abbrev pub invariant-loop-x : goal.invariant-loop-x
invariant-loop-x l = AreFirst l.fn.inst.draft l.numbers.items l.x
