use Rattle.ih_top.proofs.ReplayedAlike.{journals-fit, solves-none-replayed, solves-replayed}
use Rattle.ih_top.proofs.laws.solves_replay_the_same.Goals as goal

pub returns : goal.returns
returns c = record {
  best = solves-replayed c.legal_journals_are_taken.ensures c.legal_journals_differ.ensures c.taken_lines_are_of_legal_histories.ensures c.legal_journals_are_short.ensures;
  none = solves-none-replayed c.legal_journals_are_taken.ensures c.legal_journals_differ.ensures c.taken_lines_are_of_legal_histories.ensures c.legal_journals_are_short.ensures;
  fits = journals-fit c.legal_journals_are_short.ensures;
}
