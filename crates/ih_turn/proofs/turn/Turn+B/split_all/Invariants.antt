use Rattle.std.proofs.Common.{◌≡◌, ℕ, ◌+◌, [], vec_len, vec_capacity}
use Rattle.ih_turn.specs.Rule.{splitting_view, seat_view, AreNumberedFromOne, made_by}
use Rattle.ih_turn.proofs.turn.Turn+B.split_all.Given as goal

abbrev pub invariant-loop-number : goal.invariant-loop-number
invariant-loop-number g l = (r : ℕ) × (r + l.number ≡ l.seats + 1) × (l.token.table_id ≡ l.initial.token.table_id) × (l.token.id ≡ 0)
    × (l.token.me ≡ (splitting_view g.B.Kept.entries g.B.Kept.base l.self.table.shared.key.opening.value r l.number l.turns, []))
    × (vec_len l.row + 1 ≡ l.number) × (vec_capacity l.row ≡ vec_capacity l.initial.row)
    × AreNumberedFromOne (λ s. s.number)
    (λ s. (s.token.table_id ≡ l.self.table.shared.table_id)
    × (s.token.me.0 ≡ seat_view g.B.Kept.entries g.B.Kept.base l.self.table.shared.key.opening.value s.number l.turns)
    × (made_by g.B.Kept.maker s.token.me.0 ≡ 0) × (s.left ≡ l.turns)) l.row.items
