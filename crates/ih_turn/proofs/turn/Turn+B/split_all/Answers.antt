use Rattle.std.proofs.Common.{◌≡◌, ℕ, ◌+◌, ◌-◌, [], length, arith, ap, ◌∙◌, sym, subst}
use Rattle.ih_turn.specs.Rule.{AreNumberedFromOne, made_by, root_view, remaining_view, split_off_view, seat_view}
use Rattle.ih_turn.proofs.Views.{one_less, one_more_numbered}
use Rattle.ih_turn.proofs.turn.Turn+B.split_all.Goals as goal

pub loop-number-preserved : goal.loop-number-preserved
loop-number-preserved g c =
    let inv = c.loop-number.invariant in
    let r : ℕ = inv.0 in
    let sum = inv.1 in
    let n : ℕ = c.loop-number.number in
    let test = c.loop-number-test.true in
    let above = c.loop-number.auto.number in
    let entries = g.B.Kept.entries in
    let base = g.B.Kept.base in
    let value = c.args.self.now.table.shared.key.opening.value in
    let turns : ℕ = c.args.turns in
    let next = c.split-next.result in
    let told = c.split-next.ensures in
    let row = c.loop-number.row in
    let long = row.ok.0 in
    let len = inv.5 in
    let pushed = c.push_reserved.ensures.len in (
      r - 1,
      omega arith,
      told.token.0 ∙ inv.2,
      told.token.1 ∙ inv.3,
      told.token.2 ∙ (ap (λ m. (remaining_view m.0, [])) inv.4 ∙ ap (λ z. (root_view entries base value z (n + 1) turns, [])) (one_less r turns (omega arith))),
      omega arith,
      c.push_reserved.ensures.capacity ∙ inv.6,
      subst (λ l. AreNumberedFromOne (λ s. s.number)
          (λ s. (s.token.table_id ≡ c.args.self.now.table.shared.table_id) × (s.token.me.0 ≡ seat_view entries base value s.number turns)
          × (made_by g.B.Kept.maker s.token.me.0 ≡ 0) × (s.left ≡ turns)) l) (sym c.push_reserved.ensures.items)
          (one_more_numbered (λ s. s.number)
          (λ s. (s.token.table_id ≡ c.args.self.now.table.shared.table_id) × (s.token.me.0 ≡ seat_view entries base value s.number turns)
          × (made_by g.B.Kept.maker s.token.me.0 ≡ 0) × (s.left ≡ turns)) row.items next inv.7
          (told.seat.2 ∙ (let e : n ≡ length row.items + 1 = omega arith in e))
          (told.seat.0 ∙ (inv.2 ∙ c.requires.own.0), told.seat.1 ∙ (ap (λ m. split_off_view m.0) inv.4 ∙ ap (λ z. seat_view entries base value z turns) (sym told.seat.2)), told.seat.3, told.seat.4)),
    )
