use Rattle.ih_mends.proofs.True.{mend-least, mend-lower, mend-none, mend-priced}
use Rattle.ih_mends.proofs.laws.mends_are_true.Goals as goal

pub returns : goal.returns
returns c = λ I P. record {
  lower = mend-lower I P;
  least = mend-least I P;
  priced = mend-priced I P;
  none = mend-none I P;
}
