use Rattle.std.proofs.Common.{ℕ, ◌≤◌, ◌<◌}
use Rattle.ih_tables.specs.Sizes.{shift_count}
use Rattle.ih_plan.specs.Sums.{sum_below}
use Rattle.ih_bound.specs.Tariffs.{tariff_of}
use Rattle.ih_bound.specs.Stays.{asked, spared_in}
use Rattle.ih_bound.proofs.stays.spares_few.Given as goal

abbrev pub invariant-loop-n : goal.invariant-loop-n
invariant-loop-n l = (m : ℕ) → m < l.n
    → sum_below (shift_count l.inst.draft) (spared_in l.inst.draft l.rates (tariff_of l.inst.draft l.rates l.prices) (asked l.stay.skill.now l.stay.load.now l.stay.first l.stay.last) l.numbers m) ≤ l.rates.nurse
