-- The heading of a journal of chains, piece by piece.
use Rattle.std.proofs.Common.{◌≡◌, ℕ, List, [], ◌∷◌, ◌++◌, append_assoc}
use Rattle.std.specs.Prelude.{codes}
use Rattle.std.specs.List.{join_with_byte}
use Rattle.ih_journal.specs.declared.settings.Options.{Options}
use Rattle.ih_journal.specs.Texts.{ended, option_text}
use Rattle.ih_journal.proofs.LinePieces.{appended, appended-is}
use Rattle.ih_chain.specs.Texts.{chain_heading}

spaced : (title version a b c d e f : List ℕ)
    → ended (join_with_byte 32 (title ∷ version ∷ a ∷ b ∷ c ∷ d ∷ e ∷ f ∷ []))
    ≡ appended (title ++ (32 ∷ version))
    ((32 ∷ a) ∷ (32 ∷ b) ∷ (32 ∷ c) ∷ (32 ∷ d) ∷ (32 ∷ e) ∷ (32 ∷ f) ∷ (10 ∷ []) ∷ [])
spaced title version a b c d e f = rw appended-is (simp append_assoc)

pub heading-pieces : (o : Options) (length : ℕ) → ended (chain_heading o length)
    ≡ appended (codes "ihchain 1")
    ((32 ∷ option_text (codes "seed") o.seed) ∷ (32 ∷ option_text (codes "workers") o.workers)
    ∷ (32 ∷ option_text (codes "moves") o.moves) ∷ (32 ∷ option_text (codes "heat") o.heat)
    ∷ (32 ∷ option_text (codes "hard") o.hard) ∷ (32 ∷ option_text (codes "length") length) ∷ codes "\n" ∷ [])
unfolding chain_heading
heading-pieces o length =
    spaced (codes "ihchain") (codes "1") (option_text (codes "seed") o.seed) (option_text (codes "workers") o.workers)
    (option_text (codes "moves") o.moves) (option_text (codes "heat") o.heat) (option_text (codes "hard") o.hard)
    (option_text (codes "length") length)
