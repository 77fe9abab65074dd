use Rattle.ih_journal.specs.Best.{BestIs}
use Rattle.ih_replay.proofs.Singles.{as-taken}
use Rattle.ih_replay.proofs.replays.Replay.best.Goals as goal

pub returns : goal.returns
returns c = as-taken (λ b H. BestIs b H c.best.result) c.self.inside.book c.args.self.now c.self.invariant.kept.legal c.self.view_is c.best.ensures
