use Rattle.ih_words.proofs.Unlawful.{unlawful_at}
use Rattle.ih_words.proofs.search_options.matches_in.Goals as goal

pub returns-in_err-matches-clause-unlawful : goal.returns-in_err-matches-clause-unlawful
returns-in_err-matches-clause-unlawful c =
    unlawful_at _ _ c.in_err-matches.field-0.0 c.from_residual.result c.in_err-matches.ensures.faults
    c.from_residual.ensures.1
