use Rattle.std.proofs.Common.{◌≡◌, ◌∙◌, ap, false, subst, sym}
use Rattle.std.specs.List.{list_any}
use Rattle.ih_plan.specs.Series.{AreMoves}
use Rattle.ih_improve.specs.Kept.{may_be_kept}
use Rattle.ih_improve.specs.Legs.{terms_of_leg}
use Rattle.ih_improve.specs.Terms.{Terms}
use Rattle.ih_improve.proofs.KeptMoves.{all-stands}
use Rattle.ih_improve.proofs.Underway.{underway-more}
use Rattle.ih_improve.proofs.workers.ImproveWorker.make_or_drop.Goals as goal

pub returns-then-whole-most-clause-underway : goal.returns-then-whole-most-clause-underway
returns-then-whole-most-clause-underway c =
    let s = c.args.leg.now in
    let v = c.args.self.now.walker in
    let ms = c.as_slice-moves.result.now in
    let on = c.requires.underway in
    let inside : AreMoves s.instance ms = subst (AreMoves s.instance) (sym c.as_slice-moves.ensures.moves) c.requires.moves in
    let none : list_any (may_be_kept (terms_of_leg s)) ms ≡ false =
    rw (c.instance-inst.ensures, c.start.ensures, c.pins.ensures, c.settings-settings.ensures) at (sym c.any_kept.ensures ∙ c.if-any_kept.false) in
    let stands = all-stands (terms_of_leg s) ms inside none v.now on.now in
    let same = c.whole_price-whole.ensures ∙ c.price-price.ensures.same in
    let instance = rw same at c.make_moves.ensures.instance in
    let now = rw same at c.make_moves.ensures.now in
    let best = rw same at c.make_moves.ensures.best in
    underway-more s v c.make_moves.new.self ms on stands instance now best
