use Rattle.std.proofs.Common.{rules, ap}
use Rattle.std.proofs.lemmas.Int.{to_z-of_z}
use Rattle.std.specs.Int.{w64}
use Rattle.std.specs.Prelude.{FitsSigned}
use Rattle.ih_fill.proofs.scoring.Scorer.valued.Goals as goal

pub returns : goal.returns
returns c =
    let fits : FitsSigned w64 c.score-value.result = search rules in
    rw (to_z-of_z w64 c.score-value.result fits) (ap (λ z. record { write = c.args.write; value = z }) c.score-value.ensures)
