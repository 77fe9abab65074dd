use Rattle.std.proofs.Common.{ℕ, suc, map, get_or, take, drop, arith, ap, ◌∙◌, sym}
use mathlib.Core.Logic.{dite}
use native.Mathlib.Decide.{ℕ_discrete}
use Rattle.ih_turn.proofs.Views.{cut_at, number_at}
use Rattle.ih_turn.proofs.closing.take_first.Goals as goal

pub loop-i-preserved : goal.loop-i-preserved
loop-i-preserved g c =
    let xs = c.loop-i.seats.items in
    let i : ℕ = c.loop-i.i in
    let long = c.loop-i.seats.ok.0 in
    let test = c.loop-i-test.true in
    let len = c.len-count.ensures in
    let vlen = ap (λ v. v.len) c.loop-i.invariant.0 in
    let x = c.index.result.now in (
      c.loop-i.invariant.0,
      λ k h. dite (ℕ_discrete k i)
          (λ is zero. c.if-index-eq0.false (sym (number_at (λ s. s.number) xs i x (omega arith) c.index.ensures) ∙ (ap (λ z. get_or (map (λ s. s.number) xs) z 0) (sym is) ∙ zero)))
          (λ other. c.loop-i.invariant.1 k (omega arith)),
    )

pub returns-then-index-eq0 : goal.returns-then-index-eq0
returns-then-index-eq0 g c =
    let xs = c.loop-i.seats.items in
    let i : ℕ = c.loop-i.i in
    let long = c.loop-i.seats.ok.0 in
    let test = c.loop-i-test.true in
    let len = c.len-count.ensures in
    let vlen = ap (λ v. v.len) c.loop-i.invariant.0 in (
      take i xs,
      drop (suc i) xs,
      ap (λ v. v.items) (sym c.loop-i.invariant.0) ∙ cut_at xs i c.remove.result (omega arith) c.remove.ensures.value,
      c.remove.ensures.items,
    )
