-- Picks from later in a stream.
use Rattle.std.proofs.Common.{◌≡◌, ℕ, zero, suc, ◌+◌, refl, ◌∙◌, ap, arith, List}
use Rattle.rand_xoshiro.specs.Xoshiro256.{next_state}
use Rattle.ih_plan.specs.Draws.{state_after}
use Rattle.ih_gen.specs.Words.{pick, begins}

pub state-later : (i m : ℕ) (s : List ℕ) → state_after m (state_after i s) ≡ state_after (i + m) s
unfolding state_after
state-later i zero s = ap (λ n. state_after n s) (omega arith)
state-later i (suc m) s = ap next_state (state-later i m s) ∙ ap (λ n. state_after n s) (let one : suc (i + m) ≡ i + suc m = omega arith in one)

pub state-none : (s : List ℕ) → state_after 0 s ≡ s
unfolding state_after
state-none s = refl

pub pick-later : (i n : ℕ) (s : List ℕ) → pick (state_after i s) 0 n ≡ pick s i n
unfolding pick state_after
pick-later i n s = refl

pub begins-zero : (words : ℕ → List ℕ → ℕ) (s : List ℕ) → begins words 0 s ≡ s
unfolding begins
begins-zero words s = refl

pub begins-more : (words : ℕ → List ℕ → ℕ) (i : ℕ) (s : List ℕ) → begins words (i + 1) s ≡ state_after (words i (begins words i s)) (begins words i s)
unfolding begins
begins-more words i s = ap (λ n. begins words n s) (let one : i + 1 ≡ suc i = omega arith in one)

pub ruleset stream_steps = (state-later, state-none, pick-later)
