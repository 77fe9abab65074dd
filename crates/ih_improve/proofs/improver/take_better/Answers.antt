use Rattle.std.proofs.Common.{◌∙◌, ◌≡◌, true, false, ap, sym}
use Rattle.ih_improve.specs.Better.{is_better, is_better_than, standing_of}
use Rattle.ih_improve.specs.declared.comparing.Standing.{Standing}
use Rattle.ih_improve.proofs.BetterLemmas.{better-first, better-second}
use Rattle.ih_improve.proofs.improver.take_better.Goals as goal

pub returns-then-is_better-clause-kept : goal.returns-then-is_better-clause-kept
returns-then-is_better-clause-kept c =
    let t = c.args.measure.now in
    let P = c.args.kept.now in
    let Q = c.args.walker.now.best in
    let on : is_better_than t Q P ≡ true = rw (c.standing_of-found.ensures, c.best.ensures.value, c.requires.standing) at (sym c.is_better.ensures ∙ c.if-is_better.true) in
    c.copy_from.ensures ∙ (c.best-then-is_better.ensures.value ∙ better-second t P Q on)

pub returns-else-is_better-clause-kept : goal.returns-else-is_better-clause-kept
returns-else-is_better-clause-kept c =
    let t = c.args.measure.now in
    let P = c.args.kept.now in
    let Q = c.args.walker.now.best in
    let off : is_better_than t Q P ≡ false = rw (c.standing_of-found.ensures, c.best.ensures.value, c.requires.standing) at (sym c.is_better.ensures ∙ c.if-is_better.false) in
    better-first t P Q off

pub is_better-requires-clause-second : goal.is_better-requires-clause-second
is_better-requires-clause-second c = rw c.requires.standing (c.know_bills.ensures c.args.kept.now c.requires.kept)
