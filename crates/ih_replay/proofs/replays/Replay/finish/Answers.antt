use Rattle.std.proofs.Common.{ℕ}
use Rattle.ih_journal.specs.Legal.{IsFull}
use Rattle.ih_replay.specs.Refusals.{IsGoing}
use Rattle.ih_replay.proofs.Singles.{as-taken}
use Rattle.ih_replay.proofs.replays.Replay.finish.Goals as goal

pub returns-then-is_full-clause-full : goal.returns-then-is_full-clause-full
returns-then-is_full-clause-full c =
    as-taken (λ b H. IsFull b 1 H) c.self.inside.book c.args.self.now c.self.invariant.kept.legal c.self.view_is
    (record { legal = c.self.invariant.kept.legal; done = c.is_full.ensures.full c.if-is_full.true })

pub returns-else-is_full-clause-early : goal.returns-else-is_full-clause-early
returns-else-is_full-clause-early c = (
  c.refusal.ensures,
  as-taken (λ b H. (w : ℕ) × IsGoing b H w) c.self.inside.book c.args.self.now c.self.invariant.kept.legal c.self.view_is
      (c.is_full.ensures.going c.if-is_full.false),
)
