-- The place of the best of a history of chains.
use Rattle.std.proofs.Common.{◌≡◌, ℕ, ◌≤◌, ℤ, arith, ap, List, Option, Some, None, length}
use Rattle.std.specs.Prelude.{IfSome}
use Rattle.std.proofs.lemmas.List.{length-map}
use Rattle.ih_journal.specs.Base.{Base}
use Rattle.ih_journal.specs.Best.{BestIs}
use Rattle.ih_journal.specs.Tried.{Tried}
use Rattle.ih_chain.specs.declared.entries.ChainEntry.{ChainEntry}
use Rattle.ih_chain.specs.Entries.{chain_tried, chain_tries}

-- the place of the best lies in the history
pub best-inside : (b : Base) (H : List ChainEntry) (G : List Tried) (best : Option (ℕ × ℤ)) → chain_tries H ≡ G → BestIs b G best
    → IfSome best (λ k. k.0 ≤ length H)
best-inside b H G None same h = tt
best-inside b H G (Some k) same h =
    let len = length-map H chain_tried in
    let place = h.0.place in
    let as-many = ap length same in
    omega (arith, len, place, as-many)
