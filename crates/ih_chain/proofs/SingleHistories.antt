-- Histories of chains of one move are histories of single moves.
use Rattle.std.proofs.Common.{◌≡◌, ◌∙◌, ℕ, suc, refl, sym, ap, ap₂, List, [], ◌∷◌, map, Some}
use Rattle.std.specs.Prelude.{slice_get}
use Rattle.ih_plan.specs.declared.moves.Move.{Move}
use Rattle.ih_plan.specs.Draws.{move_of}
use Rattle.ih_journal.specs.declared.entries.Entry.{Entry}
use Rattle.ih_journal.specs.Base.{Base}
use Rattle.ih_journal.specs.Legal.{attempt_of}
use Rattle.ih_journal.specs.Tried.{Tried, tried, tries}
use Rattle.ih_journal.proofs.Mapped.{attempt-one}
use Rattle.ih_chain.specs.declared.entries.ChainEntry.{ChainEntry}
use Rattle.ih_chain.specs.Entries.{chain_tried, chain_tries}
use Rattle.ih_chain.specs.Laws.{SinglesAreHistoriesOfMoves}

-- the entry of the draw with the chain's number
single : Base → ChainEntry → Entry
single b e = record {
  worker = e.worker;
  number = e.number;
  again = 0;
  seen = e.seen;
  mv = move_of b.instance b.options.seed e.worker e.number;
  price = e.price;
  verdict = e.verdict;
}

single-tried : (b : Base) (e : ChainEntry) → e.moves ≡ attempt_of b 1 e.worker e.number → tried (single b e) ≡ chain_tried e
unfolding single move_of
single-tried b e drawn =
    ap (λ (ms : List Move).
    let t : Tried = record { worker = e.worker; number = e.number; again = 0; seen = e.seen; moves = ms; price = e.price; verdict = e.verdict } in t)
    (sym (attempt-one b e.worker e.number) ∙ sym drawn)

singles : (b : Base) (H : List ChainEntry)
    → ((k : ℕ) (t : Tried) → slice_get (chain_tries H) k ≡ Some t → t.moves ≡ attempt_of b 1 t.worker t.number)
    → tries (map (single b) H) ≡ chain_tries H
singles b [] drawn = refl
singles b (e ∷ es) drawn =
    ap₂ (λ x xs. x ∷ xs) (single-tried b e (drawn 0 (chain_tried e) refl)) (singles b es (λ k t there. drawn (suc k) t there))

pub singles-of-moves : SinglesAreHistoriesOfMoves
singles-of-moves b H legal = (map (single b) H, singles b H (λ k t there. (legal k t there).drawn))
