use Rattle.std.proofs.Common.{ap, sym, ◌∙◌}
use Rattle.ih_plan.specs.Draws.{draw_at, move_of, state_after}
use Rattle.ih_moves.proofs.Streams.{stream-next}
use Rattle.ih_moves.proofs.draws.Stream.draw.Goals as goal

pub returns-clause-numbered : goal.returns-clause-numbered
unfolding move_of
returns-clause-numbered c = λ seed w i e. (
  c.draw_six.ensures.move_drawn ∙ ap (draw_at c.args.inst.now.draft) e,
  c.draw_six.ensures.rest ∙ (ap (state_after 6) e ∙ sym (stream-next seed w i)),
)
