use Rattle.ih_footprint.proofs.Locality.{touches-same, after-same, local_all}
use Rattle.ih_footprint.proofs.LocalPrices.{move_is_local}
use Rattle.ih_footprint.proofs.SeriesLocality.{series_local}
use Rattle.ih_footprint.proofs.laws.footprints_are_local.Goals as goal

pub returns : goal.returns
returns c = record {
  write = λ P Q w planP planQ fits same. record {
    touched = touches-same _ P Q w planP planQ fits same;
    afterwards = after-same _ P Q w planP planQ fits same;
  };
  writes = λ P Q ws passes planP planQ fits same within.
      let both = local_all _ P Q ws passes planP planQ fits same within in
      record { touched = both.0; afterwards = both.1 };
  mv = move_is_local c.args._inst.now.draft;
  moves = series_local c.args._inst.now.draft;
}
