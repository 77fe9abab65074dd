use Rattle.std.proofs.Common.{◌∙◌, refl, sym}
use Rattle.ih_replay.proofs.Keeping.{worker-none}
use Rattle.ih_replay.proofs.workers.ReplayWorker.new.Goals as goal
use Rattle.ih_moves.proofs.Streams.{stream-start}

pub returns : goal.returns
returns c = λ b instance options stands own.
    let seed = c.args.options.now.seed in
    let w = c.args.worker in
    let drawn = c.draw-draw.ensures.numbered seed w 0 (c.new-stream.ensures ∙ sym (stream-start seed w)) in
    worker-none b w
    (record { replica = c.args.replica; stream = c.draw-draw.new.self; draw = c.draw-draw.result; number = 0; again = 0; own_end = 0 })
    stands own refl refl refl (rw (instance, options) drawn.0) (rw options drawn.1)
