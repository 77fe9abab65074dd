-- Marks on the numbers that were met.
use Rattle.std.proofs.Common.{◌≡◌, ℕ, ap, Bool, List}
use Rattle.ih_plan.specs.Sums.{bit, count_below}
use Rattle.ih_plan.proofs.SumLemmas.{sum_below-same}
use Rattle.ih_tables.specs.Marks.{is_marked}

-- the numbers that are marked are as many as those that were met
pub count-met : (n : ℕ) (marks : List Bool) (met : ℕ → Bool) → ((i : ℕ) → is_marked marks i ≡ met i) → count_below n (is_marked marks) ≡ count_below n met
count-met n marks met e = sum_below-same n (λ i. bit (is_marked marks i)) (λ i. bit (met i)) (λ i h. ap bit (e i))
