use Rattle.std.proofs.Common.{codes, refl}
use Rattle.clap.proofs.OnLiterals.{clap_on_literals}
use Rattle.ih_arguments.specs.Arguments.{optional_number}
use Rattle.ih_arguments.specs.Distinct.{all_differ}
use Rattle.ih_words.specs.Replay.{replay_app}
use Rattle.ih_plan.specs.declared.limits.TheConstants.{MAX_FREEZE}
use Rattle.ih_arguments.proofs.DescriptionRules.{takes_number}
use Rattle.ih_words.specs.Replay.{replay_call, lawful_replay}
use Rattle.ih_words.proofs.Unlawful.{lawful-answer, refused-answer}
use Rattle.ih_words.proofs.replay.read_replay.Goals as goal

pub matches_in-requires : goal.matches_in-requires
unfolding clap_on_literals all_differ
matches_in-requires c = record { simple = refl; independent = refl }

pub lawful_replay-requires : goal.lawful_replay-requires
lawful_replay-requires c =
    c.in_ok-matches.ensures.matched.optional 4 (optional_number (codes "freeze") MAX_FREEZE) 0 MAX_FREEZE (takes_number refl)

pub returns-in_err-matches : goal.returns-in_err-matches
unfolding replay_app
returns-in_err-matches c = refused-answer replay_call (replay_app c.args.name.now) lawful_replay _ c.from_residual.result c.in_err-matches.field-0.0 c.from_residual.ensures.1 c.in_err-matches.ensures.unlawful

pub returns : goal.returns
unfolding replay_app
returns c =
    rw c.ok_or.ensures.value
    (lawful-answer replay_call (replay_app c.args.name.now) lawful_replay _ _ c.lawful_replay.result c.in_ok-matches.ensures.matched.no_fault c.in_ok-matches.ensures.matched.rows
    c.lawful_replay.ensures)
