use Rattle.std.proofs.Common.{◌∙◌, arith}
use Rattle.std.proofs.lemmas.Option.{slice_get-get_or}
use Rattle.ih_advise.proofs.Places.{come-more, come-all}
use Rattle.ih_advise.proofs.findings.Findings.find_all.Goals as goal

pub loop-at-preserved : goal.loop-at-preserved
loop-at-preserved c =
    let below = c.loop-at-test.true in
    record {
      come = come-more c.args.inst.now.draft c.args.scorer.now.hard c.args.scorer.now.plan c.args.choices.now c.args.workers c.args.worker c.loop-at.at
          c.loop-at.self.found.items c.push_reserved.new.self.items _ c.advice_on.result
          c.loop-at.invariant.come (slice_get-get_or c.args.choices.now c.loop-at.at _ (omega (arith, below))) c.advice_on.ensures c.push_reserved.ensures.items;
      room = c.push_reserved.ensures.capacity ∙ c.loop-at.invariant.room;
    }

pub returns : goal.returns
returns c =
    let ended = c.loop-at-test.false in
    come-all c.args.inst.now.draft c.args.scorer.now.hard c.args.scorer.now.plan c.args.choices.now c.args.workers c.args.worker c.loop-at.at
    c.loop-at.self.found.items c.loop-at.invariant.come (omega (arith, ended))
