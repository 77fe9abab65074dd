use Rattle.std.proofs.Common.{◌≡◌}
use Rattle.ih_fill.specs.Theatres.{theatre_value, IsFirstTheatre}
use Rattle.ih_fill.proofs.patients.cheapest_theatre.Given as goal

abbrev pub invariant-loop-t : goal.invariant-loop-t
invariant-loop-t l = record {
  least : l.least ≡ theatre_value l.scorer l.patient l.day.0 0 l.best;
  first : IsFirstTheatre l.scorer l.patient l.day.0 0 l.t l.best;
}
