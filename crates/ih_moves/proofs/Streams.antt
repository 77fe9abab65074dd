-- A worker's stream from one draw to the next.
use Rattle.std.proofs.Common.{◌≡◌, ℕ, zero, suc, ◌+◌, ◌*◌, refl, ap, arith, List}
use Rattle.rand_xoshiro.specs.Xoshiro256.{next_state}
use Rattle.ih_plan.specs.Draws.{state_after, stream_state, stream_at}

-- an opened stream has drawn nothing
pub stream-start : (seed w : ℕ) → stream_at seed w 0 ≡ stream_state seed w
unfolding state_after
stream-start seed w = refl

state_after-add : (a b : ℕ) (s : List ℕ) → state_after (a + b) s ≡ state_after a (state_after b s)
unfolding state_after
state_after-add zero b s = ap (λ (n : ℕ). state_after n s) (omega arith)
state_after-add (suc a) b s =
    let one : suc a + b ≡ suc (a + b) = omega arith in
    rw one (ap next_state (state_after-add a b s))

pub stream-next : (seed w i : ℕ) → stream_at seed w (i + 1) ≡ state_after 6 (stream_at seed w i)
stream-next seed w i =
    let one : 6 * (i + 1) ≡ 6 + 6 * i = omega arith in
    rw one (state_after-add 6 (6 * i) (stream_state seed w))
