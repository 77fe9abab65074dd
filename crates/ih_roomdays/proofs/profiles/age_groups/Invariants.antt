use Rattle.ih_roomdays.proofs.AgeLemmas.{AreFirstAges}
use Rattle.ih_roomdays.proofs.profiles.age_groups.Given as goal

abbrev pub invariant-loop-x : goal.invariant-loop-x
invariant-loop-x l = AreFirstAges l.fn.inst.draft l.ages.items l.x
