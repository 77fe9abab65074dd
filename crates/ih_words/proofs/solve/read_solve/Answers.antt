use Rattle.std.proofs.Common.{codes, refl}
use Rattle.clap.proofs.OnLiterals.{clap_on_literals}
use Rattle.ih_plan.specs.declared.limits.TheConstants.{MAX_FREEZE}
use Rattle.ih_journal.specs.declared.settings.TheConstants.{MAX_RETRIES}
use Rattle.ih_arguments.specs.Arguments.{optional_number}
use Rattle.ih_arguments.specs.Distinct.{all_differ}
use Rattle.ih_arguments.proofs.DescriptionRules.{takes_number}
use Rattle.ih_words.specs.Solve.{lawful_solve, solve_app, solve_call}
use Rattle.ih_words.proofs.SearchRules.{has_options}
use Rattle.ih_words.proofs.Unlawful.{lawful-answer, refused-answer}
use Rattle.ih_words.proofs.solve.read_solve.Goals as goal

pub matches_in-requires : goal.matches_in-requires
unfolding clap_on_literals solve_app all_differ
matches_in-requires c = record { simple = refl; independent = refl }

pub lawful_solve-requires-clause-options : goal.lawful_solve-requires-clause-options
unfolding solve_app
lawful_solve-requires-clause-options c = has_options c.in_ok-matches.ensures.matched.numbers refl refl refl refl refl

pub lawful_solve-requires-clause-retries : goal.lawful_solve-requires-clause-retries
unfolding solve_app
lawful_solve-requires-clause-retries c =
    c.in_ok-matches.ensures.matched.optional 8 (optional_number (codes "retries") MAX_RETRIES) 0 MAX_RETRIES (takes_number refl)

pub lawful_solve-requires-clause-freeze : goal.lawful_solve-requires-clause-freeze
unfolding solve_app
lawful_solve-requires-clause-freeze c =
    c.in_ok-matches.ensures.matched.optional 10 (optional_number (codes "freeze") MAX_FREEZE) 0 MAX_FREEZE (takes_number refl)

pub returns-in_err-matches-clause-read : goal.returns-in_err-matches-clause-read
unfolding solve_app
returns-in_err-matches-clause-read c = refused-answer solve_call solve_app lawful_solve _ c.from_residual.result c.in_err-matches.field-0.0 c.from_residual.ensures.1 c.in_err-matches.ensures.unlawful

pub returns-clause-read : goal.returns-clause-read
unfolding solve_app
returns-clause-read c =
    rw c.ok_or.ensures.value
    (lawful-answer solve_call solve_app lawful_solve _ _ c.lawful_solve.result c.in_ok-matches.ensures.matched.no_fault c.in_ok-matches.ensures.matched.rows
    c.lawful_solve.ensures.value)
