use Rattle.ih_endings.proofs.Saying.{ended}
use Rattle.ih_frame.proofs.CommandEnds.{command-answerable}
use Rattle.ih_top.specs.Methods.{comes_to, gated_inputs}
use Rattle.ih_top.proofs.gated.perform_gated.Goals as goal

pub returns-clause-ends : goal.returns-clause-ends
returns-clause-ends g c =
    let a = c.answer_of-answer in
    ended _ (command-answerable (comes_to c.args.call) (gated_inputs c.args.call) _ _) _ _ _ a.result _ a.ensures.ends a.ensures.cause c.conclude.ensures.said
