use Rattle.std.proofs.Common.{◌∙◌, refl, sym}
use Rattle.ih_desk.proofs.worker_loop.WorkerLoop.open.Goals as goal
use Rattle.ih_moves.proofs.Streams.{stream-start}

pub returns : goal.returns
returns g c = record {
  own = record { instance = refl; options = refl; each_is = refl; worker = c.in_ok-open.ensures.worker };
  replica = c.in_ok-open.ensures.replica;
  stream = c.new.ensures ∙ sym (stream-start c.args.options.now.seed c.args.worker);
}
