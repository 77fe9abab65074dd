use Rattle.std.proofs.Common.{refl}
use Rattle.clap.proofs.OnLiterals.{clap_on_literals}
use Rattle.ih_words.specs.Check.{check_app}
use Rattle.ih_arguments.specs.Distinct.{all_differ}
use Rattle.ih_words.specs.Check.{check_call, lawful_check}
use Rattle.ih_words.proofs.Unlawful.{lawful-answer, refused-answer}
use Rattle.ih_words.proofs.check.read_check.Goals as goal

pub matches_in-requires : goal.matches_in-requires
unfolding clap_on_literals check_app all_differ
matches_in-requires c = record { simple = refl; independent = refl }

pub returns-in_err-matches : goal.returns-in_err-matches
unfolding check_app
returns-in_err-matches c = refused-answer check_call check_app lawful_check _ c.from_residual.result c.in_err-matches.field-0.0 c.from_residual.ensures.1 c.in_err-matches.ensures.unlawful

pub returns : goal.returns
unfolding check_app
returns c =
    rw c.ok_or.ensures.value
    (lawful-answer check_call check_app lawful_check _ _ c.lawful_check.result c.in_ok-matches.ensures.matched.no_fault c.in_ok-matches.ensures.matched.rows
    c.lawful_check.ensures)
