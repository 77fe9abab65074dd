use Rattle.ih_footprint.proofs.Locality.{frame, frame_all, frame_move}
use Rattle.ih_footprint.proofs.SeriesLocality.{frame_series}
use Rattle.ih_footprint.proofs.laws.footprints_keep_the_rest.Goals as goal

pub returns : goal.returns
returns c = record {
  write = frame c.args._inst.now.draft;
  writes = λ P ws cell plan fits range h. frame_all _ P ws cell plan fits range h;
  mv = frame_move c.args._inst.now.draft;
  moves = frame_series c.args._inst.now.draft;
}
