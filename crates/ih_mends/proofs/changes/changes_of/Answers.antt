use Rattle.std.proofs.Common.{arith}
use Rattle.std.proofs.lemmas.Option.{slice_get-get_or}
use Rattle.ih_mends.proofs.Changing.{changes-more}
use Rattle.ih_mends.proofs.changes.changes_of.Goals as goal

pub loop-i-preserved : goal.loop-i-preserved
loop-i-preserved c =
    let below = c.loop-i-test.true in
    changes-more c.args.inst.now.draft c.args.scorer.now.plan c.args.scorer.now.hard c.args.choices.now c.loop-i.i _
    c.loop-i.changes.items _ c.best_replacement.result
    c.requires.scorer.hard c.loop-i.invariant (slice_get-get_or c.args.choices.now c.loop-i.i _ (omega (arith, below)))
    c.best_replacement.ensures.best c.best_replacement.ensures.fits c.in_ok-push.ensures.items
