use Rattle.std.proofs.Common.{refl, ap, length}
use Rattle.ih_replay.proofs.Singles.{entries-taken}
use Rattle.ih_replay.proofs.replays.Replay.refusal.Goals as goal

pub returns : goal.returns
returns c = rw (ap length (entries-taken c.self.inside.book c.args.self.now c.entries.result.now c.self.view_is c.entries.ensures.entries)) refl
