use Rattle.std.proofs.Common.{◌≡◌, ◌∙◌, ◌<◌, ℕ, ap, arith, sym, Bool, List}
use Rattle.std.specs.Prelude.{not}
use Rattle.ih_tables.specs.Sizes.{person_count}
use Rattle.ih_plan.specs.Presence.{is_present, present}
use Rattle.ih_plan.specs.Costs.{is_empty}
use Rattle.ih_plan.specs.Sums.{which_below}
use Rattle.ih_plan.proofs.SumLemmas.{which_below-zero}
use Rattle.ih_changes.proofs.ChangeLemmas.{none-yet, some-listed}
use Rattle.ih_changes.proofs.differences.is_occupied.Goals as goal

pub loop-person-init : goal.loop-person-init
loop-person-init c = which_below-zero (is_present c.args.inst.now.draft c.args.plan.now c.args.room.0 c.args.day)

pub loop-person-preserved : goal.loop-person-preserved
loop-person-preserved c =
    none-yet c.loop-person.person (is_present c.args.inst.now.draft c.args.plan.now c.args.room.0 c.args.day) c.loop-person.invariant
    (sym c.is_present.ensures ∙ c.if-is_present.false)

pub returns-then-is_present : goal.returns-then-is_present
unfolding present
returns-then-is_present c =
    let I = c.args.inst.now.draft in
    let at = is_present I c.args.plan.now c.args.room.0 c.args.day in
    let inside : c.loop-person.person < person_count I = rw c.persons-person-end.ensures at c.loop-person-test.true in
    sym (ap not (some-listed (person_count I) c.loop-person.person at inside (sym c.is_present.ensures ∙ c.if-is_present.true)))

pub returns : goal.returns
unfolding present
returns c =
    let I = c.args.inst.now.draft in
    let at : ℕ → Bool = is_present I c.args.plan.now c.args.room.0 c.args.day in
    let past = c.loop-person-test.false in
    let most = c.loop-person.auto.person-end in
    let all : c.loop-person.person ≡ person_count I = omega (arith, past, most) ∙ c.persons-person-end.ensures in
    sym (ap (λ (n : ℕ). not (is_empty (which_below n at))) (sym all) ∙ ap (λ (xs : List ℕ). not (is_empty xs)) c.loop-person.invariant)
