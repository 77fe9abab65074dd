use Rattle.std.proofs.Common.{arith}
use Rattle.ih_fill.proofs.PassLemmas.{choices-all, choices-more}
use Rattle.ih_fill.proofs.filling.make_all.Goals as goal

pub loop-at-preserved : goal.loop-at-preserved
loop-at-preserved c =
    let below = c.loop-at-test.true in
    choices-more c.args.inst.now.draft c.args.scorer.now c.loop-at.scorer c.make_choice.new.scorer c.args.choices.now c.loop-at.at _ (omega (arith, below)) c.loop-at.invariant c.make_choice.ensures

pub returns : goal.returns
returns c =
    let ended = c.loop-at-test.false in
    choices-all c.args.inst.now.draft c.args.scorer.now c.loop-at.scorer c.args.choices.now c.loop-at.at (omega (arith, ended)) c.loop-at.invariant
