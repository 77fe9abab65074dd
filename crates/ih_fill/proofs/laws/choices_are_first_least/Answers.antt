use Rattle.ih_fill.proofs.ChoiceLaws.{made-first, some-first, none-made, closed-stays}
use Rattle.ih_fill.proofs.laws.choices_are_first_least.Goals as goal

pub returns : goal.returns
returns c = record { made = made-first; some = some-first; none = none-made; closed = closed-stays }
