use Rattle.std.proofs.lemmas.Option.{slice_get_within}
use Rattle.ih_why.proofs.Admitted.{reason-true}
use Rattle.ih_why.proofs.Lying.{not-crowded, not-deserted, not-mixed}
use Rattle.ih_why.proofs.FirstReason.{reason-holds}
use Rattle.ih_why.proofs.Silence.{nothing-said}
use Rattle.ih_why.proofs.laws.reasons_are_true.Goals as goal

pub returns : goal.returns
returns c =
    let I = c.args._inst.now.draft in
    let valid = c.args._inst.now.valid in
    record {
      said = λ something P feasible. something (nothing-said I valid P feasible);
      patients = λ p a why e is P feasible.
          let found = reason-holds I a why is in
          reason-true I valid P feasible p a (slice_get_within I.patients p a e) e found.0 why found.1;
      crowded = λ r d hr hd h P feasible. not-crowded I P feasible r d hr hd h;
      mixed = λ r d hr hd h P feasible. not-mixed I P feasible r d hr hd h;
      deserted = λ r k hr hk h P feasible. not-deserted I P feasible r k hr hk h;
    }
