use Rattle.ih_top.specs.Searches.{of_chains, of_moves}
use Rattle.ih_top.specs.Rounds.{of_rounds}
use Rattle.ih_top.proofs.Alike.{chains-lone, demos-same, moves-lone, searches-alike, searches-same, rounds-lone, searches-end-alike}
use Rattle.ih_top.proofs.laws.lone_searches_are_alike.Goals as goal

pub returns : goal.returns
returns c = record {
  search = searches-alike of_moves moves-lone;
  solve = searches-same of_moves moves-lone;
  ends = searches-end-alike of_moves moves-lone;
  chains = λ each. searches-alike (of_chains each) (chains-lone each);
  chain = λ each. searches-same (of_chains each) (chains-lone each);
  chain_ends = λ each. searches-end-alike (of_chains each) (chains-lone each);
  rounds = λ count. searches-alike (of_rounds count) (rounds-lone count);
  rounds_do = λ count. searches-same (of_rounds count) (rounds-lone count);
  rounds_end = λ count. searches-end-alike (of_rounds count) (rounds-lone count);
  demo = demos-same;
}
