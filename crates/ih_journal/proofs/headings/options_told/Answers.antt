use Rattle.std.proofs.Common.{arith}
use Rattle.ih_journal.proofs.Lacking.{same_tails}
use Rattle.ih_journal.proofs.HeadTexts.{options_read}
use Rattle.ih_journal.proofs.headings.options_told.Goals as goal

pub returns-in_err-seed-clause-none : goal.returns-in_err-seed-clause-none
returns-in_err-seed-clause-none c =
    rw c.from_residual.ensures
    (λ o short is. c.in_err-seed.ensures.none o.seed _ (omega (arith, short.seed)) is)

pub returns-in_err-workers-clause-none : goal.returns-in_err-workers-clause-none
returns-in_err-workers-clause-none c =
    rw c.from_residual-in_err-workers.ensures
    (λ o short is. c.in_err-workers.ensures.none o.workers _ (omega (arith, short.workers)) (same_tails c.in_ok-seed.ensures.some.1 is))

pub returns-in_err-moves-clause-none : goal.returns-in_err-moves-clause-none
returns-in_err-moves-clause-none c =
    rw c.from_residual-in_err-moves.ensures
    (λ o short is. c.in_err-moves.ensures.none o.moves _ (omega (arith, short.moves)) (same_tails c.in_ok-workers.ensures.some.1 (same_tails c.in_ok-seed.ensures.some.1 is)))

pub returns-in_err-heat-clause-none : goal.returns-in_err-heat-clause-none
returns-in_err-heat-clause-none c =
    rw c.from_residual-in_err-heat.ensures
    (λ o short is.
    c.in_err-heat.ensures.none o.heat _ (omega (arith, short.heat))
    (same_tails c.in_ok-moves.ensures.some.1 (same_tails c.in_ok-workers.ensures.some.1 (same_tails c.in_ok-seed.ensures.some.1 is))))

pub returns-in_err-hard-clause-none : goal.returns-in_err-hard-clause-none
returns-in_err-hard-clause-none c =
    rw c.from_residual-in_err-hard.ensures
    (λ o short is.
    c.in_err-hard.ensures.none o.hard _ (omega (arith, short.hard))
    (same_tails c.in_ok-heat.ensures.some.1 (same_tails c.in_ok-moves.ensures.some.1 (same_tails c.in_ok-workers.ensures.some.1 (same_tails c.in_ok-seed.ensures.some.1 is)))))

pub returns-in_err-retries-clause-none : goal.returns-in_err-retries-clause-none
returns-in_err-retries-clause-none c =
    rw c.from_residual-in_err-retries.ensures
    (λ o short is.
    c.in_err-retries.ensures.none o.retries short.retries
    (same_tails c.in_ok-hard.ensures.some.1 (same_tails c.in_ok-heat.ensures.some.1 (same_tails c.in_ok-moves.ensures.some.1
    (same_tails c.in_ok-workers.ensures.some.1 (same_tails c.in_ok-seed.ensures.some.1 is))))))

pub returns-clause-some : goal.returns-clause-some
returns-clause-some c =
    let seed = c.in_ok-seed.ensures.some in
    let workers = c.in_ok-workers.ensures.some in
    let moves = c.in_ok-moves.ensures.some in
    let heat = c.in_ok-heat.ensures.some in
    let hard = c.in_ok-hard.ensures.some in
    let retries = c.in_ok-retries.ensures.some in (
      record {
        seed = omega (arith, seed.0);
        workers = omega (arith, workers.0);
        moves = omega (arith, moves.0);
        heat = omega (arith, heat.0);
        hard = omega (arith, hard.0);
        retries = retries.0;
      },
      options_read c.in_ok-seed.seed c.in_ok-workers.workers c.in_ok-moves.moves c.in_ok-heat.heat c.in_ok-hard.hard c.in_ok-retries.retries
          _ _ _ _ _ _ seed.1 workers.1 moves.1 heat.1 hard.1 retries.1,
    )
