use Rattle.std.proofs.Common.{◌≡◌}
use Rattle.ih_bound.specs.Hints.{list_below, points_at}
use Rattle.ih_bound.specs.Tariffs.{tariff_of}
use Rattle.ih_bound.proofs.hints.all_points.Given as goal

abbrev pub invariant-loop-place : goal.invariant-loop-place
invariant-loop-place l =
    l.list.items ≡ list_below l.place (points_at l.inst.draft l.rates (tariff_of l.inst.draft l.rates l.prices))
