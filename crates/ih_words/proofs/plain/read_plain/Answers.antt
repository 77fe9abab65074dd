use Rattle.std.proofs.Common.{◌≡◌, ◌∙◌, ◌≤◌, ◌*◌, ℕ, List, Option, Some, None, IfOk, arith, refl, sym}
use Rattle.std.specs.Prelude.{IfSome, ok_or}
use Rattle.clap.specs.Words.{Row, found_of, rows_of}
use Rattle.ih_journal.specs.Settings.{most_entries}
use Rattle.ih_journal.specs.declared.settings.TheConstants.{MAX_ENTRIES}
use Rattle.ih_arguments.specs.Arguments.{numbered_option}
use Rattle.ih_arguments.proofs.DescriptionRules.{requires_number}
use Rattle.ih_words.specs.Plain.{IsPlain, IsPlainTo, lawful_plain_to, plain_app, plain_call}
use Rattle.ih_words.specs.declared.error.WordsError.TheVariants.{Unlawful}
use Rattle.ih_words.specs.declared.plain.Plain.{Plain}
use Rattle.ih_words.proofs.SearchRules.{has_options, lawful_plain_to-within, number-within}
use Rattle.ih_words.proofs.Unlawful.{lawful-answer, refused-answer}
use Rattle.ih_words.proofs.plain.read_plain.Goals as goal

pub matches_in-requires : goal.matches_in-requires
unfolding plain_app
matches_in-requires c = record { simple = c.requires.simple; independent = c.requires.independent }

pub lawful_plain-requires-clause-search : goal.lawful_plain-requires-clause-search
lawful_plain-requires-clause-search c = has_options c.in_ok-matches.ensures.matched.numbers refl refl refl refl refl

pub lawful_plain-requires-clause-number : goal.lawful_plain-requires-clause-number
lawful_plain-requires-clause-number c =
    let has = c.in_ok-matches.ensures.matched.numbers 8 (numbered_option c.args.id.now 1 c.args.high) 1 c.args.high (requires_number refl) in
    let few = c.ranges.high.fits in
    (has.0, has.1, (has.2.0, has.2.1, has.2.2, omega (arith, has.2.3, few)))

pub returns-clause-read : goal.returns-clause-read
unfolding plain_app
returns-clause-read c =
    let id = c.args.id.now in
    let high = c.args.high in
    let rows : List Row = rows_of (found_of c.in_ok-matches.matches) in
    let has = c.in_ok-matches.ensures.matched.numbers 8 (numbered_option id 1 high) 1 high (requires_number refl) in
    rw c.ok_or.ensures.value
    (lawful-answer plain_call (plain_app c.args.name.now id high) (lawful_plain_to high id) _ rows c.lawful_plain.result
    c.in_ok-matches.ensures.matched.no_fault c.in_ok-matches.ensures.matched.rows
    (c.lawful_plain.ensures.value ∙ sym (lawful_plain_to-within high id rows (number-within high id rows has))))

-- a search and a number that is known to be from 1 to `high`, where there are any
with_number : (o : Option Plain) (n high : ℕ) → IfSome o (λ p. p.number ≡ n) → (1 ≤ n) × (n ≤ high) → IfSome o (λ p. IsPlain p.search)
    → IfSome o (λ p. most_entries p.search.options * p.number ≤ MAX_ENTRIES) → IfOk (ok_or o Unlawful) (IsPlainTo high)
with_number (Some p) n high is range plain few = record {
  search = plain;
  some = let low = range.0 in omega (arith, is, low);
  most = let top = range.1 in omega (arith, is, top);
  few = few;
}
with_number None n high is range plain few = tt

pub returns-clause-lawful : goal.returns-clause-lawful
returns-clause-lawful c =
    let has = c.in_ok-matches.ensures.matched.numbers 8 (numbered_option c.args.id.now 1 c.args.high) 1 c.args.high (requires_number refl) in
    rw c.ok_or.ensures.value
    (with_number c.lawful_plain.result _ c.args.high c.lawful_plain.ensures.number (number-within c.args.high c.args.id.now _ has)
    c.lawful_plain.ensures.lawful c.lawful_plain.ensures.few)

pub returns-in_err-matches-clause-read : goal.returns-in_err-matches-clause-read
unfolding plain_app
returns-in_err-matches-clause-read c =
    refused-answer plain_call (plain_app c.args.name.now c.args.id.now c.args.high) (lawful_plain_to c.args.high c.args.id.now) _
    c.from_residual.result c.in_err-matches.field-0.0 c.from_residual.ensures.1 c.in_err-matches.ensures.unlawful
