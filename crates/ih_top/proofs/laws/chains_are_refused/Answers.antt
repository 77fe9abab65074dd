use Rattle.ih_top.proofs.Headings.{chains-fit, chains-headless, chains-refused}
use Rattle.ih_top.proofs.laws.chains_are_refused.Goals as goal

pub returns : goal.returns
returns c = record {
  headless = chains-headless;
  fits = chains-fit c.named_calls_are_within_limits.ensures c.chain_journals_are_short.ensures;
  refused = chains-refused c.named_calls_are_within_limits.ensures c.chain_journals_are_short.ensures;
}
