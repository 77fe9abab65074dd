use Rattle.std.proofs.Common.{get_or}
use Rattle.ih_desk.proofs.Lengths.{has-finished, may-work}
use Rattle.ih_workers.proofs.searching.run_workers.Goals as goal

pub run_all-requires-after_bounds : goal.run_all-requires-after_bounds
run_all-requires-after_bounds g c κs within = λ k d below. may-work 1 c.args.desk.now (get_or c.args.workers.now k d) (c.requires k d below)

pub returns : goal.returns
returns g c = λ k d below. has-finished 1 c.args.desk.now (get_or c.args.workers.now k d) _ (c.requires k d below) (c.run_all.ensures k d below)
