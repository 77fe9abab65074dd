use Rattle.std.proofs.Common.{◌≡◌, ◌∙◌, refl, arith}
use Rattle.ih_tables.specs.Sizes.{nurse_count}
use Rattle.ih_nurses.proofs.SeenLemmas.{seen-none, seen-more, seen-all}
use Rattle.ih_nurses.proofs.seen.seen_in.Goals as goal

pub loop-j-init : goal.loop-j-init
loop-j-init c = seen-none c.args.inst.now.draft c.args.plan.now c.args.room.0 c.args.from

pub loop-j-preserved : goal.loop-j-preserved
loop-j-preserved c =
    seen-more c.loop-j.invariant c.meet-count.new.seen c.meet-count.result c.meet-count.ensures.len
    (λ n. c.meet-count.ensures.each n ∙ rw c.nurse_at.ensures.choice refl)
    (c.meet-count.ensures.count (nurse_count c.args.inst.now.draft) c.nurse_at.ensures.nurse) c.meet-count.ensures.bound

pub returns : goal.returns
returns c =
    let whole : c.loop-j.j ≡ c.args.len = omega arith in
    seen-all c.loop-j.invariant ∙ rw whole refl
