use Rattle.std.proofs.Common.{codes, refl}
use Rattle.clap.proofs.OnLiterals.{clap_on_literals}
use Rattle.ih_plan.specs.declared.limits.TheConstants.{MAX_HARD, MAX_WORKERS}
use Rattle.ih_words.specs.Advise.{advise_app}
use Rattle.ih_arguments.specs.Arguments.{numbered_option}
use Rattle.ih_arguments.specs.Distinct.{all_differ}
use Rattle.ih_arguments.proofs.DescriptionRules.{requires_number}
use Rattle.ih_words.specs.Advise.{advise_call, lawful_advise}
use Rattle.ih_words.proofs.Unlawful.{lawful-answer, refused-answer}
use Rattle.ih_words.proofs.advise.read_advise.Goals as goal

pub matches_in-requires : goal.matches_in-requires
unfolding clap_on_literals advise_app all_differ
matches_in-requires c = record { simple = refl; independent = refl }

pub lawful_advise-requires : goal.lawful_advise-requires
unfolding advise_app
lawful_advise-requires c = record {
  hard = c.in_ok-matches.ensures.matched.numbers 2 (numbered_option (codes "hard") 0 MAX_HARD) 0 MAX_HARD (requires_number refl);
  workers = c.in_ok-matches.ensures.matched.numbers 3 (numbered_option (codes "workers") 1 MAX_WORKERS) 1 MAX_WORKERS (requires_number refl);
}

pub returns-in_err-matches-clause-read : goal.returns-in_err-matches-clause-read
unfolding advise_app
returns-in_err-matches-clause-read c = refused-answer advise_call advise_app lawful_advise _ c.from_residual.result c.in_err-matches.field-0.0 c.from_residual.ensures.1 c.in_err-matches.ensures.unlawful

pub returns-clause-read : goal.returns-clause-read
unfolding advise_app
returns-clause-read c =
    rw c.ok_or.ensures.value
    (lawful-answer advise_call advise_app lawful_advise _ _ c.lawful_advise.result c.in_ok-matches.ensures.matched.no_fault c.in_ok-matches.ensures.matched.rows
    c.lawful_advise.ensures.value)
