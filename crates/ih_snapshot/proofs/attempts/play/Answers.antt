use Rattle.ih_plan.specs.Series.{footprint_of_all}
use Rattle.std.proofs.Common.{◌≡◌, ◌+◌, ◌∙◌, arith, ap}
use Rattle.std.specs.Prelude.{slice_index}
use Rattle.ih_cellbook.specs.Counters.{times_read}
use Rattle.ih_cellbook.specs.ReadsState.{ReadsState}
use Rattle.ih_snapshot.specs.Noting.{times_listed}
use Rattle.ih_snapshot.proofs.Touching.{keys, foot-below, foot-short, foot-times, reads-below, reads-short, reads-times}
use Rattle.ih_snapshot.proofs.attempts.play.Goals as goal

pub raise_read-requires-clause-reads : goal.raise_read-requires-clause-reads
raise_read-requires-clause-reads g c =
    let v = c.args.ledgers.now in
    let same = c.is_own.ensures c.if-is_own.true in
    let own : keys (g.E.Offer.Offers.offered c.args.last.now).reads.pairs ≡ footprint_of_all v.instance v.plan (g.E.Logged.tried c.args.entry.now).moves = c.requires.own same.0 same.1 same.2 in
    rw (c.as_slice.ensures, c.reads.ensures, c.requires.count) (reads-below v.instance v.plan (g.E.Logged.tried c.args.entry.now).moves (g.E.Offer.Offers.offered c.args.last.now).reads.pairs own)

pub raise_read-requires-clause-small : goal.raise_read-requires-clause-small
raise_read-requires-clause-small g c n =
    let v = c.args.ledgers.now in
    let same = c.is_own.ensures c.if-is_own.true in
    let own : keys (g.E.Offer.Offers.offered c.args.last.now).reads.pairs ≡ footprint_of_all v.instance v.plan (g.E.Logged.tried c.args.entry.now).moves = c.requires.own same.0 same.1 same.2 in
    let small = c.requires.small n in
    let short = reads-short v.instance v.plan (g.E.Logged.tried c.args.entry.now).moves (g.E.Offer.Offers.offered c.args.last.now).reads.pairs own in
    rw (c.as_slice.ensures, c.reads.ensures) (omega (arith, small, short))

pub raise-requires-clause-cells : goal.raise-requires-clause-cells
raise-requires-clause-cells g c =
    let v = c.args.ledgers.now in
    rw (c.cells.ensures.cells, c.play_all_noting.ensures.cells, c.as_slice-else-is_own.ensures, c.attempt-else-is_own.ensures, c.requires.count)
    (foot-below v.instance v.plan (g.E.Logged.tried c.args.entry.now).moves)

pub raise-requires-clause-small : goal.raise-requires-clause-small
raise-requires-clause-small g c n =
    let v = c.args.ledgers.now in
    let small = c.requires.small n in
    let short = foot-short v.instance v.plan (g.E.Logged.tried c.args.entry.now).moves in
    rw (c.cells.ensures.cells, c.play_all_noting.ensures.cells, c.as_slice-else-is_own.ensures, c.attempt-else-is_own.ensures) (omega (arith, small, short))

pub returns-then-is_own-clause-each : goal.returns-then-is_own-clause-each
returns-then-is_own-clause-each g c n h =
    let v = c.args.ledgers.now in
    let same = c.is_own.ensures c.if-is_own.true in
    let own : keys (g.E.Offer.Offers.offered c.args.last.now).reads.pairs ≡ footprint_of_all v.instance v.plan (g.E.Logged.tried c.args.entry.now).moves = c.requires.own same.0 same.1 same.2 in
    c.raise_read.ensures.each n
    ∙ ap (λ k. slice_index c.args.versions.now n + k)
    (ap (times_read n) (c.as_slice.ensures ∙ ap (λ (r : ReadsState). r.pairs) c.reads.ensures)
    ∙ reads-times v.instance v.plan (g.E.Logged.tried c.args.entry.now).moves (g.E.Offer.Offers.offered c.args.last.now).reads.pairs own n h)

pub returns-else-is_own-clause-each : goal.returns-else-is_own-clause-each
returns-else-is_own-clause-each g c n h =
    let v = c.args.ledgers.now in
    c.raise.ensures.each n
    ∙ ap (λ k. slice_index c.args.versions.now n + k)
    (ap (times_listed n) (c.cells.ensures.cells
    ∙ (c.play_all_noting.ensures.cells ∙ ap (footprint_of_all v.instance v.plan) (c.as_slice-else-is_own.ensures ∙ c.attempt-else-is_own.ensures)))
    ∙ foot-times v.instance v.plan (g.E.Logged.tried c.args.entry.now).moves n h)
