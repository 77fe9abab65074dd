use Rattle.std.proofs.Common.{ℕ}
use Rattle.ih_journal.specs.Frozen.{AgreesBefore}
use Rattle.ih_journal.specs.History.{plan_at}
use Rattle.ih_journal.specs.Legal.{AreLegal}
use Rattle.ih_cellbook.specs.Laws.{AreFew}
use Rattle.ih_cellbook.specs.Legal.{AreExact}
use Rattle.ih_replay.proofs.Singles.{as-taken, entries-taken}
use Rattle.ih_replay.proofs.replays.Replay.entries.Goals as goal

pub returns-clause-entries : goal.returns-clause-entries
returns-clause-entries c = entries-taken c.self.inside.book c.args.self.now c.entries.result.now c.self.view_is c.entries.ensures.entries

pub returns-clause-legal : goal.returns-clause-legal
returns-clause-legal c = as-taken (λ b H. AreLegal b 1 H) c.self.inside.book c.args.self.now c.self.invariant.kept.legal c.self.view_is c.self.invariant.kept.legal

pub returns-clause-few : goal.returns-clause-few
returns-clause-few c = as-taken AreFew c.self.inside.book c.args.self.now c.self.invariant.kept.legal c.self.view_is c.entries.ensures.few

pub returns-clause-agrees : goal.returns-clause-agrees
returns-clause-agrees c =
    as-taken (λ b H. (k : ℕ) → AgreesBefore b (plan_at b H k)) c.self.inside.book c.args.self.now c.self.invariant.kept.legal c.self.view_is c.entries.ensures.agrees

pub returns-clause-exact : goal.returns-clause-exact
returns-clause-exact c = as-taken AreExact c.self.inside.book c.args.self.now c.self.invariant.kept.legal c.self.view_is c.entries.ensures.exact
