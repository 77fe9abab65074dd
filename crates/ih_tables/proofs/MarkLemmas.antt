-- Marks on the numbers below the length of a list, where none is marked yet and where one more is.
use Rattle.std.proofs.Common.{◌≡◌, ℕ, zero, suc, ◌<◌, refl, arith, Bool, true, false, List, length, set, replicate}
use Rattle.std.specs.Prelude.{◌||◌, ◌==◌}
use Rattle.std.proofs.lemmas.Grind.{get_or-set_at}
use Rattle.std.proofs.lemmas.List.{get_or-set_other}
use Rattle.std.proofs.lemmas.Bool.Decides.{nat_tests}
use Rattle.ih_tables.specs.Marks.{is_marked}

pub none-marked : (n i : ℕ) → is_marked (replicate n false) i ≡ false
none-marked zero i = refl
none-marked (suc n) zero = refl
none-marked (suc n) (suc i) = none-marked n i

pub one-marked : (marks : List Bool) (k i : ℕ) → k < length marks → is_marked (set marks k true) i ≡ is_marked marks i || (k == i)
one-marked marks k i h = grind (arith, nat_tests, get_or-set_at, get_or-set_other)
