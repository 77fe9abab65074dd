use Rattle.std.proofs.Common.{◌≡◌, ◌∙◌, ◌*◌, arith}
use Rattle.ih_nurses.proofs.StartLemmas.{loads-none, loads-more}
use Rattle.ih_nurses.proofs.start.no_loads.Goals as goal

pub loop-index-preserved : goal.loop-index-preserved
loop-index-preserved c = c.in_ok-push.ensures.items ∙ rw c.no_load.ensures (loads-more c.args.inst.now.draft c.loop-index.index c.loop-index.loads.items c.loop-index.invariant)

pub returns : goal.returns
returns c =
    let end : c.loop-index.index ≡ c.nurses.result * c.shifts.result = omega arith in
    loads-none c.args.inst.now.draft c.loop-index.loads.items (rw (end, c.nurses.ensures, c.shifts.ensures) at c.loop-index.invariant)
