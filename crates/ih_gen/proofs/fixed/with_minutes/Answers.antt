use Rattle.ih_solution.proofs.ListedValues.{listed-made}
use Rattle.ih_gen.proofs.Assembly.{put-known}
use Rattle.ih_gen.proofs.fixed.with_minutes.Goals as goal

pub loop-n-preserved : goal.loop-n-preserved
loop-n-preserved c =
    let made = put-known c.args.key.now _ _ _ _ _ c.in_ok-with_member.ensures c.in_ok-each_day.ensures c.in_ok-thing.ensures in
    listed-made _ _ _ _ _ c.loop-n.invariant made c.in_ok-push.ensures.items
