-- Lines of chains, piece by piece and one after the other.
use Rattle.std.proofs.Common.{◌≡◌, ℕ, ◌+◌, ◌<◌, ◌≤◌, sym, ap, ◌∙◌, List, [], ◌∷◌, decimal, ◌++◌, append_assoc, drop, get_or, length, Result, Ok, Err}
use Rattle.std.specs.Prelude.{OnOk, codes, if◌then◌else◌, is_ok}
use Rattle.std.specs.List.{join_with_byte}
use Rattle.std.proofs.lemmas.List.{append-nil, drop_all, drop_more}
use Rattle.ih_journal.proofs.LinePieces.{appended, appended-is}
use Rattle.ih_journal.specs.declared.entries.Entry.{Entry}
use Rattle.ih_journal.specs.declared.settings.Options.{Options}
use Rattle.ih_journal.specs.Texts.{again_field, ended, fields, line_text, move_text, price_text, verdict_text}
use Rattle.ih_chain.specs.declared.entries.ChainEntry.{ChainEntry}
use Rattle.ih_chain.specs.Laws.{as_chain}
use Rattle.ih_chain.specs.Texts.{chain_fields, chain_line, chain_lines_from, chain_text}

pub same-line : (o : Options) (k : ℕ) (e : Entry) → o.retries ≡ 0 → chain_line k (as_chain e) ≡ line_text o k e
unfolding fields chain_fields
same-line o k e none =
    sym (ap (λ r. join_with_byte 32 (decimal k ∷ decimal e.worker ∷ decimal e.number ∷ again_field r e.again
    ++ decimal e.seen ∷ move_text e.mv ∷ price_text e.price ∷ verdict_text e.verdict ∷ [])) none)

-- ---- a line

spaced : (old a b c d m p v : List ℕ) → old ++ ended (join_with_byte 32 (a ∷ b ∷ c ∷ d ∷ m ∷ p ∷ v ∷ []))
    ≡ appended old
    ((a ++ 32 ∷ []) ∷ (b ++ 32 ∷ []) ∷ (c ++ 32 ∷ []) ∷ (d ++ 32 ∷ []) ∷ m ∷ (32 ∷ []) ∷ p ∷ (32 ∷ []) ∷ v ∷ (10 ∷ []) ∷ [])
spaced old a b c d m p v = rw appended-is (simp append_assoc)

line-pieces : (old : List ℕ) (k : ℕ) (e : ChainEntry) → old ++ ended (chain_line k e)
    ≡ appended old
    ((decimal k ++ 32 ∷ []) ∷ (decimal e.worker ++ 32 ∷ []) ∷ (decimal e.number ++ 32 ∷ []) ∷ (decimal e.seen ++ 32 ∷ [])
    ∷ chain_text e.moves ∷ codes " " ∷ price_text e.price ∷ codes " " ∷ verdict_text e.verdict ∷ codes "\n" ∷ [])
unfolding chain_fields
line-pieces old k e =
    spaced old (decimal k) (decimal e.worker) (decimal e.number) (decimal e.seen) (chain_text e.moves) (price_text e.price)
    (verdict_text e.verdict)

-- what a list holds after a call that adds to it, or answers lack of memory
pub where-ok : {A E : Type 0} (r : Result A E) (new more old : List ℕ) → new ≡ (if is_ok r then more else old) → OnOk r (new ≡ more)
where-ok (Ok v) new more old h = h
where-ok (Err e) new more old h = tt

-- a line that is made piece by piece
pub line-made : (old a b c d m s p t v all : List ℕ) (k : ℕ) (e : ChainEntry)
    → a ≡ old ++ (decimal k ++ 32 ∷ []) → b ≡ a ++ (decimal e.worker ++ 32 ∷ []) → c ≡ b ++ (decimal e.number ++ 32 ∷ [])
    → d ≡ c ++ (decimal e.seen ++ 32 ∷ []) → m ≡ d ++ chain_text e.moves → s ≡ m ++ codes " " → p ≡ s ++ price_text e.price
    → t ≡ p ++ codes " " → v ≡ t ++ verdict_text e.verdict → all ≡ v ++ codes "\n" → all ≡ old ++ ended (chain_line k e)
line-made old a b c d m s p t v all k e at-a at-b at-c at-d at-m at-s at-p at-t at-v at-all =
    rw (at-all, at-v, at-t, at-p, at-s, at-m, at-d, at-c, at-b, at-a) (sym (line-pieces old k e))

-- ---- lines

pub next-line : (out : List ℕ) (es : List ChainEntry) (k i : ℕ) (e : ChainEntry) → i < length es → e ≡ get_or es i e
    → (out ++ ended (chain_line k e)) ++ chain_lines_from (k + 1) (drop (i + 1) es) ≡ out ++ chain_lines_from k (drop i es)
unfolding chain_lines_from
next-line out es k i e h is =
    append_assoc out (ended (chain_line k e)) (chain_lines_from (k + 1) (drop (i + 1) es))
    ∙ (ap (λ (x : ChainEntry). out ++ (ended (chain_line k x) ++ chain_lines_from (k + 1) (drop (i + 1) es))) is
    ∙ ap (λ rest. out ++ chain_lines_from k rest) (sym (drop_more es i e h)))

pub last-line : (out : List ℕ) (es : List ChainEntry) (k i : ℕ) → length es ≤ i → out ++ chain_lines_from k (drop i es) ≡ out
unfolding chain_lines_from
last-line out es k i h = ap (λ rest. out ++ chain_lines_from k rest) (drop_all i es h) ∙ append-nil out
