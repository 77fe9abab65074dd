use Rattle.ih_rounds.proofs.Lengths.{rounds-short, sixteen-short}
use Rattle.ih_rounds.proofs.laws.round_journals_are_short.Goals as goal

pub returns : goal.returns
returns c = record {
  each = rounds-short c.legal_journals_are_short.ensures;
  all = sixteen-short c.legal_journals_are_short.ensures;
}
