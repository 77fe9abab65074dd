-- How long the texts of chains are: of their moves, of lines and of journals.
use Rattle.std.proofs.Common.{◌≡◌, ℕ, suc, ◌+◌, ◌*◌, ◌<◌, ◌≤◌, ◌^◌, refl, arith, ap, ◌∙◌, List, [], ◌∷◌, length, decimal, Some}
use Rattle.std.specs.Prelude.{codes, slice_get}
use Rattle.std.proofs.lemmas.List.{length-append}
use Rattle.std.proofs.lemmas.List.FromFn.{length-map-range_with_len}
use Rattle.ih_tables.specs.declared.drafts.Draft.{Draft}
use Rattle.ih_plan.specs.declared.moves.Move.{Move}
use Rattle.ih_plan.specs.Draws.{move_of}
use Rattle.ih_plan.specs.Series.{AreMoves}
use Rattle.ih_journal.specs.declared.settings.Options.{Options}
use Rattle.ih_journal.specs.Base.{Base}
use Rattle.ih_journal.specs.Legal.{AreLegal, attempt_of}
use Rattle.ih_journal.specs.Settings.{IsLawful}
use Rattle.ih_journal.specs.Texts.{ended, move_text, option_text, price_text, verdict_text}
use Rattle.ih_journal.proofs.InRange.{IsLimited, limits}
use Rattle.ih_journal.proofs.Mapped.{get-mapped}
use Rattle.ih_journal.proofs.TextLengths.{IsShortTried, ended-length, hard-length, heat-length, joined-length, move-length, moves-length, number2, option-length, price-length, seed-length, verdict-length, workers-length, number7}
use Rattle.ih_cellbook.specs.Laws.{IsSearchBase}
use Rattle.ih_cellbook.proofs.Ranges.{each-short}
use Rattle.ih_chain.specs.declared.entries.ChainEntry.{ChainEntry}
use Rattle.ih_chain.specs.Entries.{chain_tried, chain_tries}
use Rattle.ih_chain.specs.Laws.{ChainJournalsAreShort}
use Rattle.ih_chain.specs.Texts.{chain_fields, chain_heading, chain_line, chain_lines_from, chain_text}

-- the moves of a chain, each with a semicolon
moves-text-length : (I : Draft) (ms : List Move) → IsLimited I → AreMoves I ms → length (chain_text ms) ≤ 29 * length ms
moves-text-length I [] l h = omega arith
moves-text-length I (m ∷ []) l h = let one = move-length I m l h.0 in omega (arith, one)
moves-text-length I (m ∷ n ∷ ms) l h =
    let one = move-length I m l h.0 in
    let rest = moves-text-length I (n ∷ ms) l h.1 in
    let all = length-append (move_text m) (59 ∷ chain_text (n ∷ ms)) in
    omega (arith, one, rest, all)

-- an entry whose numbers are short and whose chain has at most so many moves
record IsShortChain (I : Draft) (each k : ℕ) (e : ChainEntry) : Type 0 where
  pub numbers : IsShortTried I k (chain_tried e)
  pub moves : length e.moves ≤ each

line-length : (I : Draft) (each k : ℕ) (e : ChainEntry) → IsLimited I → IsShortChain I each k e
    → length (chain_line k e) ≤ 225 + 29 * each
unfolding chain_fields
line-length I each k e l short =
    let few = short.moves in
    let text = moves-text-length I e.moves l short.numbers.move in
    let moves : length (chain_text e.moves) ≤ 29 * each = omega (arith, text, few) in
    let all = joined-length 32 (7 ∷ 2 ∷ 7 ∷ 7 ∷ 29 * each ∷ 154 ∷ 42 ∷ [])
    (decimal k ∷ decimal e.worker ∷ decimal e.number ∷ decimal e.seen ∷ chain_text e.moves ∷ price_text e.price
    ∷ verdict_text e.verdict ∷ []) (
      number7 k short.numbers.place,
      (
        number2 e.worker short.numbers.worker,
        (
          number7 e.number short.numbers.number,
          (
            number7 e.seen short.numbers.seen,
            (
              moves,
              (
                price-length e.price short.numbers.price,
                (verdict-length I e.verdict l short.numbers.verdict, tt),
              ),
            ),
          ),
        ),
      ),
    ) in
    omega (arith, all)

-- room for one line, and for the lines behind it
add-line : (m n first rest all : ℕ) → first ≤ m → rest ≤ m * n → all ≡ first + rest → all ≤ m * suc n
add-line m n first rest all one others is = omega (arith, one, others, is)

lines-length : (I : Draft) (each k : ℕ) (H : List ChainEntry) → IsLimited I
    → ((j : ℕ) (e : ChainEntry) → slice_get H j ≡ Some e → IsShortChain I each (k + j) e)
    → length (chain_lines_from k H) ≤ (226 + 29 * each) * length H
unfolding chain_lines_from
lines-length I each k [] l short = omega arith
lines-length I each k (e ∷ es) l short =
    let here : k + 0 ≡ k = omega arith in
    let line = line-length I each k e l (rw here at (short 0 e refl)) in
    let end = ended-length (chain_line k e) in
    let first : length (ended (chain_line k e)) ≤ 226 + 29 * each = omega (arith, line, end) in
    let rest = lines-length I each (k + 1) es l
    (λ j f at. let next : (k + 1) + j ≡ k + suc j = omega arith in rw next (short (suc j) f at)) in
    add-line (226 + 29 * each) (length es) (length (ended (chain_line k e))) (length (chain_lines_from (k + 1) es)) _ first rest
    (length-append (ended (chain_line k e)) (chain_lines_from (k + 1) es))

heading-length : (o : Options) (each : ℕ) → IsLawful o → o.seed < 2 ^ 64 → each ≤ 8 → length (chain_heading o each) ≤ 127
unfolding chain_heading
heading-length o each lawful seed few =
    let title : length (codes "ihchain") ≤ 7 = omega arith in
    let version : length (codes "1") ≤ 1 = omega arith in
    let number = option-length (codes "length") 1 each (omega arith) (omega (arith, few)) (omega (arith, few)) in
    let moves : length (option_text (codes "length") each) ≤ 8 = omega (arith, number) in
    let all = joined-length 32 (7 ∷ 1 ∷ 25 ∷ 15 ∷ 13 ∷ 12 ∷ 12 ∷ 8 ∷ [])
    (codes "ihchain" ∷ codes "1" ∷ option_text (codes "seed") o.seed ∷ option_text (codes "workers") o.workers
    ∷ option_text (codes "moves") o.moves ∷ option_text (codes "heat") o.heat ∷ option_text (codes "hard") o.hard
    ∷ option_text (codes "length") each ∷ []) (
      title,
      (
        version,
        (
          seed-length o lawful seed,
          (
            workers-length o lawful seed,
            (
              moves-length o lawful seed,
              (heat-length o lawful seed, (hard-length o lawful seed, (moves, tt))),
            ),
          ),
        ),
      ),
    ) in
    omega (arith, all)

-- an attempt has so many moves
attempt-length : (b : Base) (each w i : ℕ) → length (attempt_of b each w i) ≡ each
attempt-length b each w i = length-map-range_with_len (move_of b.instance b.options.seed w) (i * each) each

module _ (b : Base) (each : ℕ) (H : List ChainEntry) (search : IsSearchBase b) (legal : AreLegal b each (chain_tries H)) where
  short-chains : (k : ℕ) (e : ChainEntry) → slice_get H k ≡ Some e → IsShortChain b.instance each k e
  short-chains k e there =
      let tried = get-mapped chain_tried H k e there in
      let many : length e.moves ≡ each =
      ap length (legal k (chain_tried e) tried).drawn ∙ attempt-length b each e.worker e.number in
      record {
        numbers = each-short b (chain_tries H) search (λ j f at. (legal j f at).entry) k (chain_tried e) tried;
        moves = omega (arith, many);
      }

pub journals-short : ChainJournalsAreShort
journals-short b each H search few legal =
    let l = limits b.instance search.valid in
    let heading = heading-length b.options each search.base.lawful search.seed few in
    let end = ended-length (chain_heading b.options each) in
    let lines = lines-length b.instance each 0 H l
    (λ j e at. let here : 0 + j ≡ j = omega arith in rw here (short-chains b each H search legal j e at)) in
    let all = length-append (ended (chain_heading b.options each)) (chain_lines_from 0 H) in
    omega (arith, heading, end, lines, all)
