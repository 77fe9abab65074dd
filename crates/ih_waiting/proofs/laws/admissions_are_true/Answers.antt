use Rattle.ih_waiting.proofs.ChangedBills.{cost-after, rules-kept}
use Rattle.ih_waiting.proofs.Least.{cheapest-cost, cheapest-least, no-admission}
use Rattle.ih_waiting.proofs.laws.admissions_are_true.Goals as goal

pub returns : goal.returns
returns c = λ I P. record {
  kept = rules-kept I P;
  priced = cost-after I P;
  least = cheapest-least I P;
  cheapest = cheapest-cost I P;
  none = no-admission I P;
}
