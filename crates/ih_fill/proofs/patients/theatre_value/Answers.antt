use Rattle.std.proofs.Common.{rules, ap}
use Rattle.std.proofs.lemmas.Int.{to_z-of_z}
use Rattle.std.specs.Int.{w64}
use Rattle.std.specs.Prelude.{FitsSigned}
use Rattle.ih_fill.specs.declared.candidates.Candidate.{Candidate}
use Rattle.ih_fill.proofs.patients.theatre_value.Goals as goal

pub returns : goal.returns
returns c =
    let fits : FitsSigned w64 c.stay.result.value = search rules in
    rw (to_z-of_z w64 c.stay.result.value fits) (ap (λ (x : Candidate). x.value) c.stay.ensures)
