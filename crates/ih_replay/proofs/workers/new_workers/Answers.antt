use Rattle.std.proofs.Common.{◌∙◌, arith, ap, refl, length, length-append}
use Rattle.ih_cellbook.specs.Keeping.{base_with}
use Rattle.ih_replay.proofs.Keeping.{workers-more}
use Rattle.ih_replay.proofs.workers.new_workers.Goals as goal

pub loop-worker-preserved : goal.loop-worker-preserved
loop-worker-preserved c =
    let many = c.loop-worker.invariant.many in
    let b = base_with c.args.inst.now.draft c.args.start.now c.args.options.now c.args.freeze in
    let new = c.new-in-loop-worker.ensures b refl refl c.in_ok-replica.ensures.replica c.in_ok-replica.ensures.worker in
    record {
      many = ap length c.in_ok-push.ensures.items ∙ length-append c.loop-worker.workers.items _ ∙ omega (arith, many);
      each = rw c.in_ok-push.ensures.items
          (workers-more b c.loop-worker.workers.items c.loop-worker.worker _ many c.loop-worker.invariant.each new);
    }
