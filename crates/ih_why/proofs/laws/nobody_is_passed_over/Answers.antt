use Rattle.ih_why.proofs.FirstReason.{has-reason, no-admission, reason-holds}
use Rattle.ih_why.proofs.laws.nobody_is_passed_over.Goals as goal

pub returns : goal.returns
returns c =
    let I = c.args._inst.now.draft in
    record {
      reason = λ a must cannot. has-reason I a must cannot;
      only = λ a why is.
          let found = reason-holds I a why is in
          (found.0, no-admission I a why found.1, found.1);
    }
