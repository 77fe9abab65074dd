-- Picks from a stream of words, and things that are made of them one after the other.
use Rattle.std.specs.Prelude.{ℕ, zero, suc, ◌%◌, List}
use Rattle.rand_xoshiro.specs.Xoshiro256.{of_seed}
use Rattle.rand_xoshiro.specs.SplitMix64.{splitmix_seed}
use Rattle.serde_json.specs.Data.{Data}
use Rattle.ih_plan.specs.Draws.{state_after, word_at}
use Rattle.ih_tables.specs.Listed.{listed}

-- the stream that a number seeds
unfoldable pub stream_of : ℕ → List ℕ
stream_of number = of_seed (splitmix_seed 32 number)

-- a choice among n by word i of a stream
unfoldable pub pick : List ℕ → ℕ → ℕ → ℕ
pick s i n = word_at s i % n

-- The stream from where thing i begins, where thing j takes `words j` words of the stream from where it begins.
unfoldable pub begins : (ℕ → List ℕ → ℕ) → ℕ → List ℕ → List ℕ
begins words zero s = s
begins words (suc i) s = state_after (words i (begins words i s)) (begins words i s)

-- the first n things, one after the other
unfoldable pub in_a_row : (ℕ → List ℕ → Data) → (ℕ → List ℕ → ℕ) → ℕ → List ℕ → List Data
in_a_row thing words n s = listed n (λ i. thing i (begins words i s))
