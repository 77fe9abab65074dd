use Rattle.std.proofs.Common.{◌≡◌}
use Rattle.std.specs.Prelude.{vec_len, vec_capacity}
use Rattle.ih_cellbook.proofs.parts.room_for.Given as goal

-- so many entries were written, in the reserved room
abbrev pub invariant-loop : goal.invariant-loop
invariant-loop g l = (vec_len l.entries ≡ l.counter) × (vec_capacity l.entries ≡ l.most)
