use Rattle.std.proofs.Common.{codes, refl}
use Rattle.clap.proofs.OnLiterals.{clap_on_literals}
use Rattle.ih_arguments.specs.Arguments.{named_number}
use Rattle.ih_words.specs.Demo.{demo_app}
use Rattle.ih_arguments.specs.Distinct.{all_differ}
use Rattle.ih_arguments.proofs.DescriptionRules.{requires_named_number}
use Rattle.std.proofs.Common.{ap, Some, ℕ}
use Rattle.ih_words.specs.Demo.{lawful_demo}
use Rattle.ih_words.proofs.Unlawful.{called-answer, refused-answer}
use Rattle.ih_words.proofs.demo.read_demo.Goals as goal

pub matches_in-requires : goal.matches_in-requires
unfolding clap_on_literals demo_app all_differ
matches_in-requires c = record { simple = refl; independent = refl }

pub u64_of-requires : goal.u64_of-requires
unfolding demo_app
u64_of-requires c =
    c.in_ok-matches.ensures.matched.numbers 0 (named_number (codes "NUMBER")) 0 18446744073709551615 (requires_named_number refl)

pub returns-in_err-matches : goal.returns-in_err-matches
unfolding demo_app
returns-in_err-matches c = refused-answer (λ (n : ℕ). n) demo_app lawful_demo _ c.from_residual.result c.in_err-matches.field-0.0 c.from_residual.ensures.1 c.in_err-matches.ensures.unlawful

pub returns : goal.returns
unfolding demo_app
returns c =
    called-answer (λ (n : ℕ). n) demo_app lawful_demo _ _ c.u64_of.result c.in_ok-matches.ensures.matched.no_fault c.in_ok-matches.ensures.matched.rows
    (ap Some c.u64_of.ensures)
