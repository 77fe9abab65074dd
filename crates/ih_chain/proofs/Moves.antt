-- The moves of a chain, each text with the separator before it.
use Rattle.std.proofs.Common.{◌≡◌, List, ℕ, ◌∷◌, ◌++◌, append_assoc, sym, ap, ◌∙◌, map}
use Rattle.ih_plan.specs.declared.moves.Move.{Move}
use Rattle.ih_journal.specs.Pieces.{marked}
use Rattle.ih_journal.specs.Texts.{move_text}
use Rattle.ih_journal.proofs.Separators.{joined_marked}
use Rattle.ih_chain.specs.Texts.{chain_text}

pub first-text : (old first whole : List ℕ) (m : Move) (ms all : List Move) → first ≡ old ++ move_text m
    → whole ≡ first ++ marked 59 (map move_text ms) → all ≡ m ∷ ms → whole ≡ old ++ chain_text all
first-text old first whole m ms all one rest is =
    rest ∙ (ap (λ xs. xs ++ marked 59 (map move_text ms)) one
    ∙ (append_assoc old (move_text m) (marked 59 (map move_text ms))
    ∙ (ap (λ xs. old ++ xs) (sym (joined_marked 59 (move_text m) (map move_text ms)))
    ∙ ap (λ ks. old ++ chain_text ks) (sym is))))
