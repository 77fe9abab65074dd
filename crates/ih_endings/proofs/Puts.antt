-- How many puts a sink had.
use Rattle.std.proofs.Common.{ℕ, Option, Some, None, inl, inr, refl}
use Rattle.ih_shelf.specs.Outside.{IfTold, IsOnePut, IsOnePutAtMost}
use Rattle.ih_endings.proofs.Files.{told-weaker}

-- one at most where there was none
pub none_put : (puts : Option ℕ) → IfTold IsOnePutAtMost puts puts
none_put None = tt
none_put (Some puts) = inl refl

-- and where there was one
pub one_put : (old new : Option ℕ) → IfTold IsOnePut old new → IfTold IsOnePutAtMost old new
one_put old new one = told-weaker IsOnePut IsOnePutAtMost old new (λ before now h. inr h) one
