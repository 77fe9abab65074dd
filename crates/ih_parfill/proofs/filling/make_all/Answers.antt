use Rattle.std.proofs.Common.{◌∙◌, arith}
use Rattle.ih_fill.proofs.PassLemmas.{choices-all, choices-more}
use Rattle.ih_parfill.proofs.filling.make_all.Goals as goal
use Rattle.ih_parfill.proofs.filling.make_all.Goals.{then-at-lt-DEALT, else-at-lt-DEALT}

pub loop-at-preserved : goal.loop-at-preserved
loop-at-preserved g c =
    let below = c.loop-at-test.true in
    elim c.if-at-lt-DEALT.branch [
      | then-at-lt-DEALT w ↦ choices-more c.args.inst.now.draft c.args.scorer.now c.loop-at.scorer c.if-at-lt-DEALT.scorer c.args.choices.now c.loop-at.at _ (omega (arith, below)) c.loop-at.invariant
          (w.scorer-is ∙ w.make_dealt.ensures.made)
      | else-at-lt-DEALT w ↦ choices-more c.args.inst.now.draft c.args.scorer.now c.loop-at.scorer c.if-at-lt-DEALT.scorer c.args.choices.now c.loop-at.at _ (omega (arith, below)) c.loop-at.invariant
          (w.scorer-is ∙ w.make_choice.ensures)
    ]

pub returns : goal.returns
returns g c =
    let ended = c.loop-at-test.false in
    choices-all c.args.inst.now.draft c.args.scorer.now c.loop-at.scorer c.args.choices.now c.loop-at.at (omega (arith, ended)) c.loop-at.invariant
