use Rattle.std.proofs.Common.{◌≡◌, ◌≢◌, ℕ, ◌<◌, map, get_or}
use Rattle.ih_turn.proofs.closing.take_first.Given as goal

abbrev pub invariant-loop-i : goal.invariant-loop-i
invariant-loop-i g l = (l.seats ≡ l.initial.seats) × ((k : ℕ) → k < l.i → get_or (map (λ s. s.number) l.seats.items) k 0 ≢ 0)
