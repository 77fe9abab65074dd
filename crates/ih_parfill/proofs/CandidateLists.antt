-- Candidates that lie behind a worker, and the next ones.
use Rattle.std.proofs.Common.{◌≡◌, ℕ, ◌+◌, ◌∙◌, sym, ap, true, false, List, ◌++◌, append_assoc}
use Rattle.std.specs.Prelude.{flat_map}
use Rattle.ih_tables.specs.declared.drafts.Patient.{Patient}
use Rattle.ih_plan.specs.declared.moves.Write.{Write}
use Rattle.ih_fill.specs.Candidates.{rooms_for, suits}
use Rattle.ih_fill.proofs.ListLemmas.{on-more, on-same}

pub room-more : (ws : List Write) (f : ℕ → List Write) (a : Patient) (r : ℕ) → suits a r ≡ true
    → (ws ++ flat_map f (rooms_for a r)) ++ f r ≡ ws ++ flat_map f (rooms_for a (r + 1))
room-more ws f a r e = append_assoc ws (flat_map f (rooms_for a r)) (f r) ∙ ap (λ xs. ws ++ xs) (sym (on-more f a r e))

pub room-same : (ws : List Write) (f : ℕ → List Write) (a : Patient) (r : ℕ) → suits a r ≡ false
    → ws ++ flat_map f (rooms_for a r) ≡ ws ++ flat_map f (rooms_for a (r + 1))
room-same ws f a r e = ap (λ xs. ws ++ xs) (sym (on-same f a r e))
