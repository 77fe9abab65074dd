-- The journal of a search by chains.
use Rattle.std.specs.Prelude.{ℕ, ◌+◌, List, [], ◌∷◌, ◌++◌, map, decimal, codes}
use Rattle.std.specs.List.{join_with_byte}
use Rattle.ih_plan.specs.declared.moves.Move.{Move}
use Rattle.ih_journal.specs.Texts.{move_text, price_text, verdict_text, option_text, ended}
use Rattle.ih_journal.specs.declared.settings.Options.{Options}
use Rattle.ih_chain.specs.declared.entries.ChainEntry.{ChainEntry}

-- the moves of a chain, parted by semicolons
abbrev pub chain_text : List Move → List ℕ
chain_text ms = join_with_byte 59 (map move_text ms)

-- the fields of the line of the entry at a place
unfoldable pub chain_fields : ℕ → ChainEntry → List (List ℕ)
chain_fields k e =
    decimal k ∷ decimal e.worker ∷ decimal e.number ∷ decimal e.seen ∷ chain_text e.moves ∷ price_text e.price
    ∷ verdict_text e.verdict ∷ []

-- the line of the entry at a place, without its line feed
abbrev pub chain_line : ℕ → ChainEntry → List ℕ
chain_line k e = join_with_byte 32 (chain_fields k e)

-- the heading of a journal of chains of this length, without its line feed
unfoldable pub chain_heading : Options → ℕ → List ℕ
chain_heading o length = join_with_byte 32 (codes "ihchain" ∷ codes "1" ∷ option_text (codes "seed") o.seed
    ∷ option_text (codes "workers") o.workers ∷ option_text (codes "moves") o.moves ∷ option_text (codes "heat") o.heat
    ∷ option_text (codes "hard") o.hard ∷ option_text (codes "length") length ∷ [])

-- the lines of entries from place k on, each with its line feed
unfoldable pub chain_lines_from : ℕ → List ChainEntry → List ℕ
chain_lines_from k [] = []
chain_lines_from k (e ∷ es) = ended (chain_line k e) ++ chain_lines_from (k + 1) es

-- the journal of a history of chains
abbrev pub chain_journal : Options → ℕ → List ChainEntry → List ℕ
chain_journal o length H = ended (chain_heading o length) ++ chain_lines_from 0 H
