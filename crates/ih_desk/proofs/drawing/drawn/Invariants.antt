use Rattle.std.proofs.Common.{◌≡◌, ◌+◌, ◌≤◌, ℕ, length, map}
use Rattle.std.specs.List.{range_with_len}
use Rattle.ih_plan.specs.Draws.{move_of, stream_at}
use Rattle.ih_plan.specs.Series.{AreMoves}
use Rattle.ih_desk.proofs.drawing.drawn.Given as goal

-- the draws so far are in the attempt
abbrev pub invariant-loop-place : goal.invariant-loop-place
invariant-loop-place g l = record {
  len : length (g.A.Attempted.moves l.attempt) ≡ l._place;
  inside : AreMoves l.inst.draft (g.A.Attempted.moves l.attempt);
  drawn : (seed w i : ℕ) → l.fn.stream ≡ stream_at seed w i
      → (g.A.Attempted.moves l.attempt ≡ map (move_of l.inst.draft seed w) (range_with_len i l._place)) × (l.stream ≡ stream_at seed w (i + l._place));
}
