use Rattle.std.proofs.Common.{◌∙◌, ◌≡◌, ap}
use Rattle.ih_tables.specs.declared.drafts.Draft.{Draft}
use Rattle.ih_plan.specs.Timetable.{Timetable}
use Rattle.ih_plan.specs.Series.{AreMoves, after_all, price_of_all}
use Rattle.ih_costs.specs.LedgersState.{LedgersState}
use Rattle.ih_improve.specs.WalkerState.{left_best_with}
use Rattle.ih_improve.proofs.WalkerBills.{best-after, best-within, bills-after, next-within, sum-small}
use Rattle.ih_improve.proofs.walkers.Walker.make_moves.Goals as goal

pub add-next-requires : goal.add-next-requires
add-next-requires c =
    let w = c.self.inside in
    let I = w.inst.now.draft in
    let ms : AreMoves I c.args.moves.now = rw (← c.self.view_is) at c.requires.moves in
    let price : c.args.price.now ≡ price_of_all I w.ledgers.plan c.args.moves.now = rw (← c.self.view_is) at c.requires.price in
    sum-small I w.inst.now.valid w.ledgers w.left_best w.stands_on_best w.bill w.best_bill c.self.invariant c.args.moves.now ms c.args.price.now price

pub is_better-is_best-requires-clause-first : goal.is_better-is_best-requires-clause-first
is_better-is_best-requires-clause-first c =
    let w = c.self.inside in
    let I = w.inst.now.draft in
    let ms : AreMoves I c.args.moves.now = rw (← c.self.view_is) at c.requires.moves in
    let price : c.args.price.now ≡ price_of_all I w.ledgers.plan c.args.moves.now = rw (← c.self.view_is) at c.requires.price in
    next-within I w.inst.now.valid w.ledgers w.left_best w.stands_on_best w.bill w.best_bill c.self.invariant c.args.moves.now ms c.args.price.now price
    c.add-next.result c.add-next.ensures

pub is_better-is_best-requires-clause-second : goal.is_better-is_best-requires-clause-second
is_better-is_best-requires-clause-second c =
    let w = c.self.inside in
    best-within w.inst.now.draft w.ledgers w.left_best w.stands_on_best w.bill w.best_bill w.inst.now.valid c.self.invariant

pub invariant_of-self : goal.invariant_of-self
invariant_of-self c =
    let w = c.self.inside in
    let I = w.inst.now.draft in
    let ms : AreMoves I c.args.moves.now = rw (← c.self.view_is) at c.requires.moves in
    let price : c.args.price.now ≡ price_of_all I w.ledgers.plan c.args.moves.now = rw (← c.self.view_is) at c.requires.price in
    let m : LedgersState = c.play_all.new.self in
    let made : m ≡ record w.ledgers { plan = after_all I w.ledgers.plan c.args.moves.now } =
    c.play_all.ensures ∙ ap (λ (J : Draft). record w.ledgers { plan = after_all J w.ledgers.plan c.args.moves.now }) c.self.invariant.instance in
    let after = bills-after I w.inst.now.valid w.ledgers w.left_best w.stands_on_best w.bill w.best_bill c.self.invariant c.args.moves.now ms c.args.price.now price
    c.add-next.result c.add-next.ensures c.is_better-is_best.result m made in
    let left_best : c.keep_left.new.left_best ≡ left_best_with w.stands_on_best c.is_better-is_best.result w.ledgers.plan w.left_best =
    c.keep_left.ensures ∙ ap (λ (P : Timetable). left_best_with w.stands_on_best c.is_better-is_best.result P w.left_best) c.plan.ensures.value in
    rw (left_best, c.best_bill_with-self-inside.ensures) after

pub returns-clause-best : goal.returns-clause-best
returns-clause-best c =
    let w = c.self.inside in
    let I = w.inst.now.draft in
    let ms : AreMoves I c.args.moves.now = rw (← c.self.view_is) at c.requires.moves in
    let price : c.args.price.now ≡ price_of_all I w.ledgers.plan c.args.moves.now = rw (← c.self.view_is) at c.requires.price in
    let made : c.play_all.new.self ≡ record w.ledgers { plan = after_all I w.ledgers.plan c.args.moves.now } =
    c.play_all.ensures ∙ ap (λ (J : Draft). record w.ledgers { plan = after_all J w.ledgers.plan c.args.moves.now }) c.self.invariant.instance in
    let left_best : c.keep_left.new.left_best ≡ left_best_with w.stands_on_best c.is_better-is_best.result w.ledgers.plan w.left_best =
    c.keep_left.ensures ∙ ap (λ (P : Timetable). left_best_with w.stands_on_best c.is_better-is_best.result P w.left_best) c.plan.ensures.value in
    let best = best-after I w.inst.now.valid w.ledgers w.left_best w.stands_on_best w.bill w.best_bill c.self.invariant c.args.moves.now ms c.args.price.now price
    c.add-next.result c.add-next.ensures c.is_better-is_best.result in
    rw (left_best, made, ← c.self.view_is) best
