use Rattle.std.proofs.Common.{◌<◌, ◌*◌, ◌∙◌, ap, arith, length, subst}
use Rattle.std.specs.Prelude.{not, IfSome}
use Rattle.ih_plan.specs.Sums.{bit}
use Rattle.ih_nurses.proofs.SeenLemmas.{marked-each, count-marked}
use Rattle.ih_nurses.proofs.seen.meet.Goals as goal

pub returns-in-Some-clause-each : goal.returns-in-Some-clause-each
returns-in-Some-clause-each c = λ i.
    rw c.in-Some.is (marked-each c.args.seen.now c.in-Some.a.0 (subst (λ n. IfSome n (λ a. a.0 < 64 * length c.args.seen.now)) c.in-Some.is c.requires) i)

pub returns-in-Some-clause-count : goal.returns-in-Some-clause-count
returns-in-Some-clause-count c = λ m below.
    let marked = count-marked c.args.seen.now c.in-Some.a.0 (subst (λ n. IfSome n (λ a. a.0 < 64 * length c.args.seen.now)) c.in-Some.is c.requires)
    m (subst (λ n. IfSome n (λ a. a.0 < m)) c.in-Some.is below) in
    let one = c.unmet.ensures ∙ ap (λ met. bit (not met)) c.is_set.ensures in
    omega (arith, marked, one)
