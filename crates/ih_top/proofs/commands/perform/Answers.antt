use Rattle.std.proofs.Common.{◌≡◌, subst}
use Rattle.ih_top.specs.Below.Arguments.{OutDiffers, command_call, gen_call, replay_call, solve_call}
use Rattle.ih_top.specs.Below.Endings.{HasShelfCause}
use Rattle.ih_endings.proofs.Saying.{has-cause}
use Rattle.ih_words.specs.declared.command.Command.{Command}
use Rattle.ih_top.specs.declared.journals.JournalUse.TheVariants.{Replay, Salvage}
use Rattle.ih_top.specs.declared.searching.Method.TheVariants.{Moves, Chains, Rounds}
use Rattle.ih_top.proofs.CommandEnds.{demo-ended, generated-ended}
use Rattle.ih_top.proofs.JournalOutcomes.{journal-ended}
use Rattle.ih_top.proofs.Methods.{searched-ended}
use Rattle.ih_top.proofs.commands.perform.Goals as goal

differs : {x y : Command} → x ≡ y → OutDiffers (command_call x) → OutDiffers (command_call y)
differs = subst (λ (x : Command). OutDiffers (command_call x))

pub returns-in-Solve-clause-ends : goal.returns-in-Solve-clause-ends
returns-in-Solve-clause-ends g c =
    rw c.in-Solve.is (searched-ended Moves (solve_call c.in-Solve.call) (differs c.in-Solve.is c.requires.differ) _ _ _ _ _ _ c.perform_gated.ensures.ends)

pub returns-in-Chain-clause-ends : goal.returns-in-Chain-clause-ends
returns-in-Chain-clause-ends g c =
    rw c.in-Chain.is (searched-ended (Chains c.in-Chain.chain.number) (solve_call c.in-Chain.chain.search) (differs c.in-Chain.is c.requires.differ) _ _ _ _ _ _ c.perform_gated-in-Chain.ensures.ends)

pub returns-in-Rounds-clause-ends : goal.returns-in-Rounds-clause-ends
returns-in-Rounds-clause-ends g c =
    rw c.in-Rounds.is (searched-ended (Rounds c.in-Rounds.rounds.number) (solve_call c.in-Rounds.rounds.search) (differs c.in-Rounds.is c.requires.differ) _ _ _ _ _ _ c.perform_gated-in-Rounds.ensures.ends)

pub returns-in-Replay-clause-ends : goal.returns-in-Replay-clause-ends
returns-in-Replay-clause-ends g c = rw c.in-Replay.is (journal-ended Replay (replay_call c.in-Replay.call) _ _ _ _ _ _ c.perform.ensures.ends)

pub returns-in-Salvage-clause-ends : goal.returns-in-Salvage-clause-ends
returns-in-Salvage-clause-ends g c = rw c.in-Salvage.is (journal-ended Salvage (replay_call c.in-Salvage.call) _ _ _ _ _ _ c.perform-in-Salvage.ensures.ends)

pub returns-in-Check-clause-ends : goal.returns-in-Check-clause-ends
returns-in-Check-clause-ends g c = rw c.in-Check.is c.perform-in-Check.ensures.ends

pub returns-in-Advise-clause-ends : goal.returns-in-Advise-clause-ends
returns-in-Advise-clause-ends g c = rw c.in-Advise.is c.perform_gated-in-Advise.ensures.ends

pub returns-in-Gen-clause-ends : goal.returns-in-Gen-clause-ends
returns-in-Gen-clause-ends g c =
    rw c.in-Gen.is (generated-ended (gen_call c.in-Gen.call) c.generated_outcome-made.result _ _ c.generated_outcome-made.ensures.outcome _ _ _ _ c.finish.ensures.ends)

pub returns-in-Demo-clause-ends : goal.returns-in-Demo-clause-ends
returns-in-Demo-clause-ends g c =
    let shelf = c.args.shelf.now in
    rw c.in-Demo.is
    (demo-ended c.in-Demo.number (g.S.Shelf.names shelf) (HasShelfCause g.S.Shelf shelf shelf) _ _ c.demo-answer.result c.conclude.result c.demo-answer.ensures.ends
    (c.demo-answer.ensures.cause _ _) c.conclude.ensures.said)

pub returns-in-Demo-clause-cause : goal.returns-in-Demo-clause-cause
returns-in-Demo-clause-cause g c =
    has-cause _ _ _ _ _ _ _ _ c.demo-answer.result.status c.conclude.result (c.demo-answer.ensures.cause _ _) c.conclude.ensures.cause
