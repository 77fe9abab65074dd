use Rattle.std.proofs.Common.{Some, ap, codes, refl}
use Rattle.clap.proofs.OnLiterals.{clap_on_literals}
use Rattle.ih_arguments.specs.Arguments.{named_number}
use Rattle.ih_arguments.specs.Distinct.{all_differ}
use Rattle.ih_words.specs.Generate.{gen_app}
use Rattle.ih_arguments.proofs.DescriptionRules.{requires_named_number}
use Rattle.ih_words.specs.Generate.{gen_call, lawful_gen}
use Rattle.ih_words.proofs.Unlawful.{called-answer, refused-answer}
use Rattle.ih_words.proofs.generate.read_gen.Goals as goal

pub matches_in-requires : goal.matches_in-requires
unfolding clap_on_literals gen_app all_differ
matches_in-requires c = record { simple = refl; independent = refl }

pub gen_in-requires : goal.gen_in-requires
unfolding gen_app
gen_in-requires c =
    c.in_ok-matches.ensures.matched.numbers 0 (named_number (codes "NUMBER")) 0 18446744073709551615 (requires_named_number refl)

pub returns-in_err-matches : goal.returns-in_err-matches
unfolding gen_app
returns-in_err-matches c = refused-answer gen_call gen_app lawful_gen _ c.from_residual.result c.in_err-matches.field-0.0 c.from_residual.ensures.1 c.in_err-matches.ensures.unlawful

pub returns : goal.returns
unfolding gen_app
returns c =
    called-answer gen_call gen_app lawful_gen _ _ c.gen_in.result c.in_ok-matches.ensures.matched.no_fault c.in_ok-matches.ensures.matched.rows
    (ap Some c.gen_in.ensures)
