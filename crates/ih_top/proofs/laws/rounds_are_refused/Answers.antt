use Rattle.ih_top.proofs.Headings.{rounds-refused, rounds-salvaged, rounds-within}
use Rattle.ih_top.proofs.laws.rounds_are_refused.Goals as goal

pub returns : goal.returns
returns c =
    let fit = rounds-within c.named_calls_are_within_limits.ensures c.round_journals_are_short.ensures.all in
    record {
      fits = fit;
      refused = rounds-refused c.legal_journals_are_taken.ensures c.legal_journals_differ.ensures c.taken_lines_are_of_legal_histories.ensures fit;
      salvaged = rounds-salvaged c.legal_journals_are_taken.ensures c.legal_journals_differ.ensures c.taken_lines_are_of_legal_histories.ensures fit;
    }
