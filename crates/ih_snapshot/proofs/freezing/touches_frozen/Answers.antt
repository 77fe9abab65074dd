use Rattle.std.proofs.Common.{◌≡◌, ◌<◌, ◌∷◌, [], ◌∙◌, ap, List, sym, subst, length, arith}
use Rattle.std.specs.List.{list_any}
use Rattle.std.proofs.lemmas.List.{nil_from_length}
use Rattle.ih_plan.specs.Frozen.{is_frozen_write}
use Rattle.ih_plan.proofs.PlanRanges.{expand-writes}
use Rattle.ih_plan.specs.declared.moves.Move.{Move}
use Rattle.ih_plan.specs.Series.{AreMoves, expand_all}
use Rattle.ih_cellbook.proofs.Unfrozen.{none-frozen, single-writes}
use Rattle.ih_snapshot.proofs.freezing.touches_frozen.Goals as goal

pub returns-then-freeze-eq0 : goal.returns-then-freeze-eq0
returns-then-freeze-eq0 c = rw c.if-freeze-eq0.true (sym (none-frozen c.args.start.now (expand_all c.args.inst.now.draft c.args.plan.now c.args.moves.now)))

pub returns-in-None : goal.returns-in-None
unfolding expand_all
returns-in-None c =
    let none : c.args.moves.now ≡ [] = nil_from_length c.args.moves.now c.in-None.ensures.cases in
    ap (λ ms. list_any (is_frozen_write c.args.start.now c.args.freeze) (expand_all c.args.inst.now.draft c.args.plan.now ms)) (sym none)

pub any_frozen-requires-clause-writes : goal.any_frozen-requires-clause-writes
any_frozen-requires-clause-writes c =
    let I = c.args.inst.now.draft in
    let fits : AreMoves I (c.in-Some.mv.now ∷ c.in-Some._rest.now) = subst (AreMoves I) c.in-Some.ensures.cases.0 c.requires.moves in
    rw (c.as_slice.ensures, c.expand.ensures.made) (expand-writes I c.args.plan.now c.in-Some.mv.now c.requires.plan fits.0)

pub returns-in-Some : goal.returns-in-Some
returns-in-Some c =
    let I = c.args.inst.now.draft in
    let P = c.args.plan.now in
    let m = c.in-Some.mv.now in
    let frozen = is_frozen_write c.args.start.now c.args.freeze in
    let day : 0 < c.args.freeze = (let some = c.if-freeze-eq0.false in omega (arith, some)) in
    let short = c.requires.alone day in
    let len = ap length c.in-Some.ensures.cases.0 in
    let none : c.in-Some._rest.now ≡ [] = nil_from_length c.in-Some._rest.now (omega (arith, short, len)) in
    let one : c.args.moves.now ≡ m ∷ [] = c.in-Some.ensures.cases.0 ∙ ap (λ (ms : List Move). m ∷ ms) none in
    c.any_frozen.ensures
    ∙ (ap (list_any frozen) (c.as_slice.ensures ∙ (c.expand.ensures.made ∙ sym (single-writes I P m)))
    ∙ ap (λ ms. list_any frozen (expand_all I P ms)) (sym one))
