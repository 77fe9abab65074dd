use Rattle.std.proofs.Common.{◌≡◌, [], ◌++◌, false, map, vec_len}
use Rattle.std.specs.Prelude.{All}
use Rattle.ih_turn.specs.Rule.{seen_lists}
use Rattle.ih_turn.proofs.closing.Turn+B.join_all.Given as goal

abbrev pub invariant-loop-other : goal.invariant-loop-other
invariant-loop-other g l = (l.token.table_id ≡ l.initial.token.table_id) × (l.token.me.1 ≡ []) × (l.token.me.0.spent ≡ false) × (l.token.me.0.waits ≡ false) × (l.token.me.0.has_turn ≡ false)
    × (map (λ s. (s.number, s.token.me.0.seen)) l.initial.seats.items ++ seen_lists l.initial.token.me.0 ≡ map (λ s. (s.number, s.token.me.0.seen)) l.seats.items ++ seen_lists l.token.me.0)
    × All (λ s. s.token.table_id ≡ l.self.table.shared.table_id) l.seats.items

abbrev pub decreases-loop-other : goal.decreases-loop-other
decreases-loop-other g l = vec_len l.seats
