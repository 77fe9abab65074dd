-- Journals of chains tell searches apart.
use Rattle.std.proofs.Common.{◌≡◌, ◌∙◌, ℕ, suc, ◌+◌, ◌<◌, ◌≤◌, ◌^◌, refl, sym, ap, subst, arith, List, [], ◌∷◌, ◌++◌, length, decimal, map, All, Some, inl, inr, true, false}
use Rattle.std.specs.Prelude.{codes, slice_get, ◌==◌}
use Rattle.std.specs.List.{join_with_byte}
use Rattle.std.specs.Fmt.{signed_decimal}
use Rattle.std.proofs.lemmas.Fmt.{decimal_injective}
use Rattle.std.proofs.lemmas.List.{length-append, length-map}
use Rattle.std.proofs.lemmas.List.Elements.{All-nil, All-cons, All-append}
use Rattle.std.proofs.lemmas.List.Splits.{slice_split_none}
use Rattle.ih_tables.specs.declared.drafts.Draft.{Draft}
use Rattle.ih_plan.specs.declared.moves.Move.{Move}
use Rattle.ih_plan.specs.declared.moves.Move.TheVariants.{Idle, Place, Withdraw, SetDay, SetRoom, SetTheatre, SwapRooms, Nurse, NurseRun, SwapNurses}
use Rattle.ih_plan.specs.Expand.{IsMoveOf}
use Rattle.ih_plan.specs.Series.{AreMoves}
use Rattle.ih_journal.specs.declared.settings.Options.{Options}
use Rattle.ih_journal.specs.Base.{Base}
use Rattle.ih_journal.specs.Grammar.{IsTriedOf, parted}
use Rattle.ih_journal.specs.Names.{AreShort, move_name, move_numbers}
use Rattle.ih_journal.specs.Pieces.{AreShortOptions}
use Rattle.ih_journal.specs.Texts.{move_text, named, numbers, option_text, options_from, price_text, retries_field, verdict_text}
use Rattle.ih_journal.proofs.HeadTexts.{lawful_short, option_lacks, option_same, options_differ}
use Rattle.ih_journal.proofs.InRange.{IsLimited, limits, move_short}
use Rattle.ih_journal.proofs.JournalTexts.{first_line, not_ended}
use Rattle.ih_journal.proofs.Lacking.{IsMark, Lacks, all_lack, cut_joined, head_of, lacks, lacks_decimal, lacks_joined, lacks_known, low_mark, numbers_lack, parted_joined, plain_lacks, signed_lack, tail_of}
use Rattle.ih_journal.proofs.Mapped.{get-mapped, map-injective}
use Rattle.ih_journal.proofs.MoveTexts.{move_cases, move_lacks, moves_differ}
use Rattle.ih_journal.proofs.PriceTexts.{all_of, price_priced, prices_differ}
use Rattle.ih_journal.proofs.VerdictTexts.{verdict_lacks, verdicts_differ}
use Rattle.ih_cellbook.specs.Laws.{IsSearchBase}
use Rattle.ih_cellbook.specs.Legal.{AreLegalButDraws}
use Rattle.ih_cellbook.proofs.Ranges.{each-in, short}
use Rattle.ih_chain.specs.declared.entries.ChainEntry.{ChainEntry}
use Rattle.ih_chain.specs.Entries.{chain_tried, chain_tries}
use Rattle.ih_chain.specs.Laws.{ChainJournalsTellSearchesApart}
use Rattle.ih_chain.specs.Texts.{chain_fields, chain_heading, chain_line, chain_lines_from, chain_text}
use Rattle.ih_chain.proofs.EntryTries.{same-entry}

-- ---- the moves of a chain

semicolon : IsMark 59
semicolon = record { digit = λ d. let high = d.1 in omega (arith, high); minus = λ e. omega (arith, e) }

named-lacks : (name ns : List ℕ) → lacks 59 name ≡ true → AreShort ns → Lacks 59 (named name ns)
named-lacks name ns known short =
    All-append (λ b. (b == 59) ≡ false) name (58 ∷ numbers ns) (lacks_known 59 name known)
    (All-cons (λ b. (b == 59) ≡ false) 58 (numbers ns) refl
    (lacks_joined 59 44 (map decimal ns) (λ e. omega (arith, e)) (numbers_lack 59 ns semicolon short)))

-- no move's text has a semicolon
no-semicolon : (m : Move) → AreShort (move_numbers m) → Lacks 59 (move_text m)
unfolding move_text
no-semicolon Idle short = lacks_known 59 (codes "idle") refl
no-semicolon (Place p at) short = named-lacks (codes "place") (p.0 ∷ at.day.0 ∷ at.room.0 ∷ at.theatre.0 ∷ []) refl short
no-semicolon (Withdraw p) short = named-lacks (codes "withdraw") (p.0 ∷ []) refl short
no-semicolon (SetDay p d) short = named-lacks (codes "setday") (p.0 ∷ d.0 ∷ []) refl short
no-semicolon (SetRoom p r) short = named-lacks (codes "setroom") (p.0 ∷ r.0 ∷ []) refl short
no-semicolon (SetTheatre p t) short = named-lacks (codes "settheatre") (p.0 ∷ t.0 ∷ []) refl short
no-semicolon (SwapRooms p q) short = named-lacks (codes "swaprooms") (p.0 ∷ q.0 ∷ []) refl short
no-semicolon (Nurse r k n) short = named-lacks (codes "nurse") (r.0 ∷ k.0 ∷ n.0 ∷ []) refl short
no-semicolon (NurseRun n r d len) short = named-lacks (codes "nurserun") (n.0 ∷ r.0 ∷ d.0 ∷ len ∷ []) refl short
no-semicolon (SwapNurses k a b) short = named-lacks (codes "swapnurses") (k.0 ∷ a.0 ∷ b.0 ∷ []) refl short

-- a move has some text
no-text : (m : Move) → AreShort (move_numbers m) → move_text m ≡ [] → ⊥
no-text m short h = elim (move_cases m (move_text m) short refl) [
  | inl w ↦ let no : [] ≡ codes "idle" = sym h ∙ w.1 in let len = ap length no in omega (arith, len)
  | inr w ↦
      let cut : [] ≡ move_name m ++ (58 ∷ w.cut.rest) = sym h ∙ cut_joined 58 (move_text m) (move_name m) w.cut.rest w.cut.cut in
      let len = simp length-append at (ap length cut) in
      omega (arith, len)
]

all-moves : (I : Draft) (ms : List Move) → AreMoves I ms → All (IsMoveOf I) ms
all-moves I [] h = All-nil (IsMoveOf I)
all-moves I (m ∷ ms) h = All-cons (IsMoveOf I) m ms h.0 (all-moves I ms h.1)

-- fields without spaces are parted as they were joined
parted-fields : (xs : List (List ℕ)) → All (Lacks 32) xs → 0 < length xs → parted 32 (join_with_byte 32 xs) ≡ xs
parted-fields [] all some = absurd (omega arith)
parted-fields (x ∷ xs) all some = parted_joined 32 x xs all

module _ (I : Draft) (l : IsLimited I) where
  -- a chain's text is parted as its moves' texts
  chain-parted : (m : Move) (ms : List Move) → AreMoves I (m ∷ ms) → parted 59 (chain_text (m ∷ ms)) ≡ map move_text (m ∷ ms)
  chain-parted m ms h =
      parted_joined 59 (move_text m) (map move_text ms)
      (all_lack 59 move_text (IsMoveOf I) (m ∷ ms) (λ n is. no-semicolon n (move_short I n l is)) (all-moves I (m ∷ ms) h))

  some-text : (m : Move) (ms : List Move) → AreMoves I (m ∷ ms) → chain_text (m ∷ ms) ≡ [] → ⊥
  some-text m ms is h =
      let none : parted 59 [] ≡ [] ∷ [] = slice_split_none (λ b. b == 59) [] (All-nil (λ b. (b == 59) ≡ false)) in
      no-text m (move_short I m l is.0) (head_of (sym (chain-parted m ms is) ∙ (ap (parted 59) h ∙ none)))

  -- two chains with one text are one chain
  chains-differ : (ms ns : List Move) → AreMoves I ms → AreMoves I ns → chain_text ms ≡ chain_text ns → ms ≡ ns
  chains-differ [] [] left right h = refl
  chains-differ [] (n ∷ ns) left right h = absurd (some-text n ns right (sym h))
  chains-differ (m ∷ ms) [] left right h = absurd (some-text m ms left h)
  chains-differ (m ∷ ms) (n ∷ ns) left right h =
      map-injective move_text (IsMoveOf I) (m ∷ ms) (n ∷ ns) (λ x y p q e. moves_differ x y (move_short I x l p) (move_short I y l q) e)
      (all-moves I (m ∷ ms) left) (all-moves I (n ∷ ns) right)
      (sym (chain-parted m ms left) ∙ (ap (parted 59) h ∙ chain-parted n ns right))

  -- ---- a line

  module _ (o : Options) where
    -- what a line may carry
    abbrev IsChainOf : ChainEntry → Type 0
    IsChainOf e = IsTriedOf I o (AreMoves I e.moves) (chain_tried e)

    -- no field has a space or a line feed
    fields-lack : (m k : ℕ) (e : ChainEntry) → m ≤ 32 → k < 2 ^ 32 → IsChainOf e → All (Lacks m) (chain_fields k e)
    unfolding chain_fields
    fields-lack m k e low place h =
        let from-price : List (List ℕ) = price_text e.price ∷ verdict_text e.verdict ∷ [] in
        let from-seen : List (List ℕ) = decimal e.seen ∷ chain_text e.moves ∷ from-price in
        All-cons (Lacks m) (decimal k) (decimal e.worker ∷ decimal e.number ∷ from-seen) (count k place)
        (All-cons (Lacks m) (decimal e.worker) (decimal e.number ∷ from-seen) (count e.worker h.worker)
        (All-cons (Lacks m) (decimal e.number) from-seen (count e.number h.number)
        (All-cons (Lacks m) (decimal e.seen) (chain_text e.moves ∷ from-price) (count e.seen h.seen)
        (All-cons (Lacks m) (chain_text e.moves) from-price moves
        (All-cons (Lacks m) (price_text e.price) (verdict_text e.verdict ∷ []) price
        (All-cons (Lacks m) (verdict_text e.verdict) [] (verdict_lacks m I e.verdict low l h.verdict) (All-nil (Lacks m))))))))
      where
        count : (n : ℕ) → n < 2 ^ 32 → Lacks m (decimal n)
        count n small = lacks_decimal m n (low_mark m low) (omega arith)

        moves : Lacks m (chain_text e.moves)
        moves =
            lacks_joined m 59 (map move_text e.moves) (λ q. omega (arith, q, low))
            (all_lack m move_text (IsMoveOf I) e.moves (λ n is. move_lacks m n low (move_short I n l is)) (all-moves I e.moves h.move))

        price : Lacks m (price_text e.price)
        price =
            let priced = price_priced e.price (price_text e.price) h.price refl in
            lacks_joined m 44 (map signed_decimal (all_of e.price)) (λ q. omega (arith, q, low)) (signed_lack m (all_of e.price) (low_mark m low) priced.small)

    some-fields : (k : ℕ) (e : ChainEntry) → 0 < length (chain_fields k e)
    unfolding chain_fields
    some-fields k e = omega arith

    line-parted : (k : ℕ) (e : ChainEntry) → k < 2 ^ 32 → IsChainOf e → parted 32 (chain_line k e) ≡ chain_fields k e
    line-parted k e place h = parted-fields (chain_fields k e) (fields-lack 32 k e (omega arith) place h) (some-fields k e)

    line-lacks : (k : ℕ) (e : ChainEntry) → k < 2 ^ 32 → IsChainOf e → Lacks 10 (chain_line k e)
    line-lacks k e place h = lacks_joined 10 32 (chain_fields k e) (λ q. omega (arith, q)) (fields-lack 10 k e (omega arith) place h)

    number-same : (m n : ℕ) → m < 2 ^ 32 → n < 2 ^ 32 → decimal m ≡ decimal n → m ≡ n
    number-same m n small other h = decimal_injective m n (omega arith) (omega arith) h

    -- two entries with one line at one place are one entry
    fields-differ : (k : ℕ) (e d : ChainEntry) → IsChainOf e → IsChainOf d → chain_fields k e ≡ chain_fields k d → e ≡ d
    unfolding chain_fields
    fields-differ k e d a b h =
        let worker = tail_of h in
        let number = tail_of worker in
        let seen = tail_of number in
        let moves = tail_of seen in
        let price = tail_of moves in
        same-entry e d (number-same e.worker d.worker a.worker b.worker (head_of worker)) (number-same e.number d.number a.number b.number (head_of number))
        (number-same e.seen d.seen a.seen b.seen (head_of seen)) (chains-differ e.moves d.moves a.move b.move (head_of moves))
        (prices_differ e.price d.price a.price b.price (head_of price)) (verdicts_differ I e.verdict d.verdict l a.verdict b.verdict (head_of (tail_of price)))

    -- ---- lines one after the other

    lines-same : (k : ℕ) (H G : List ChainEntry) → k + length H ≤ 2 ^ 32 → ((j : ℕ) (e : ChainEntry) → slice_get H j ≡ Some e → IsChainOf e)
        → ((j : ℕ) (e : ChainEntry) → slice_get G j ≡ Some e → IsChainOf e) → chain_lines_from k H ≡ chain_lines_from k G → H ≡ G
    unfolding chain_lines_from
    lines-same k [] [] room left right h = refl
    lines-same k [] (g ∷ gs) room left right h = absurd (not_ended (chain_line k g) (chain_lines_from (k + 1) gs) (sym h))
    lines-same k (e ∷ es) [] room left right h = absurd (not_ended (chain_line k e) (chain_lines_from (k + 1) es) h)
    lines-same k (e ∷ es) (g ∷ gs) room left right h =
        let place : k < 2 ^ 32 = omega arith in
        let a = left 0 e refl in
        let b = right 0 g refl in
        let cut = first_line (chain_line k e) (chain_line k g) (chain_lines_from (k + 1) es) (chain_lines_from (k + 1) gs)
        (line-lacks k e place a) (line-lacks k g place b) h in
        let fields = sym (line-parted k e place a) ∙ (ap (parted 32) cut.0 ∙ line-parted k g place b) in
        let entry = fields-differ k e g a b fields in
        let rest = lines-same (k + 1) es gs (omega arith) (λ j d at. left (suc j) d at) (λ j d at. right (suc j) d at) cut.1 in
        rw (entry, rest) refl

-- ---- headings

-- the fields of a heading
abbrev heading-fields : Options → ℕ → List (List ℕ)
heading-fields o n =
    codes "ihchain" ∷ codes "1" ∷ option_text (codes "seed") o.seed ∷ option_text (codes "workers") o.workers ∷ option_text (codes "moves") o.moves
    ∷ option_text (codes "heat") o.heat ∷ option_text (codes "hard") o.hard ∷ option_text (codes "length") n ∷ []

heading-fields-lack : (m : ℕ) (o : Options) (n : ℕ) → m ≤ 32 → AreShortOptions o → n ≤ 8 → All (Lacks m) (heading-fields o n)
heading-fields-lack m o n low short few =
    let workers = short.workers in
    let moves = short.moves in
    let heat = short.heat in
    let hard = short.hard in
    let title = codes "ihchain" in
    let version = codes "1" in
    let by-seed = option_text (codes "seed") o.seed in
    let by-workers = option_text (codes "workers") o.workers in
    let by-moves = option_text (codes "moves") o.moves in
    let by-heat = option_text (codes "heat") o.heat in
    let by-hard = option_text (codes "hard") o.hard in
    let by-length = option_text (codes "length") n in
    let from-heat : List (List ℕ) = by-heat ∷ by-hard ∷ by-length ∷ [] in
    let from-seed : List (List ℕ) = by-seed ∷ by-workers ∷ by-moves ∷ from-heat in
    All-cons (Lacks m) title (version ∷ from-seed) (plain_lacks m title low refl)
    (All-cons (Lacks m) version from-seed (plain_lacks m version low refl)
    (All-cons (Lacks m) by-seed (by-workers ∷ by-moves ∷ from-heat) (option_lacks m (codes "seed") o.seed low refl short.seed)
    (All-cons (Lacks m) by-workers (by-moves ∷ from-heat) (option_lacks m (codes "workers") o.workers low refl (omega arith))
    (All-cons (Lacks m) by-moves from-heat (option_lacks m (codes "moves") o.moves low refl (omega arith))
    (All-cons (Lacks m) by-heat (by-hard ∷ by-length ∷ []) (option_lacks m (codes "heat") o.heat low refl (omega arith))
    (All-cons (Lacks m) by-hard (by-length ∷ []) (option_lacks m (codes "hard") o.hard low refl (omega arith))
    (All-cons (Lacks m) by-length [] (option_lacks m (codes "length") n low refl (omega (arith, few))) (All-nil (Lacks m)))))))))

heading-lacks : (o : Options) (n : ℕ) → AreShortOptions o → n ≤ 8 → Lacks 10 (chain_heading o n)
unfolding chain_heading
heading-lacks o n short few =
    lacks_joined 10 32 (heading-fields o n) (λ q. omega (arith, q)) (heading-fields-lack 10 o n (omega arith) short few)

heading-parted : (o : Options) (n : ℕ) → AreShortOptions o → n ≤ 8 → parted 32 (chain_heading o n) ≡ heading-fields o n
unfolding chain_heading
heading-parted o n short few = parted-fields (heading-fields o n) (heading-fields-lack 32 o n (omega arith) short few) (omega arith)

-- two headings with one text are of the same options and the same length
headings-differ : (o p : Options) (m n : ℕ) → AreShortOptions o → AreShortOptions p → o.retries ≡ 0 → p.retries ≡ 0 → m ≤ 8 → n ≤ 8
    → chain_heading o m ≡ chain_heading p n → (o ≡ p) × (m ≡ n)
headings-differ o p m n short_o short_p once_o once_p few_m few_n h =
    let same = sym (heading-parted o m short_o few_m) ∙ (ap (parted 32) h ∙ heading-parted p n short_p few_n) in
    let seed = tail_of (tail_of same) in
    let workers = tail_of seed in
    let moves = tail_of workers in
    let heat = tail_of moves in
    let hard = tail_of heat in
    let none : retries_field o.retries ≡ retries_field p.retries = rw (once_o, once_p) refl in
    let options : options_from o ≡ options_from p = rw (head_of seed, head_of workers, head_of moves, head_of heat, head_of hard, none) refl in
    (options_differ o p short_o short_p options, option_same (codes "length") m n (omega (arith, few_m)) (omega (arith, few_n)) (head_of (tail_of hard)))

-- ---- journals

module _ (b : Base) (H : List ChainEntry) (search : IsSearchBase b) (legal : AreLegalButDraws b (chain_tries H)) where
  chains-in : (j : ℕ) (e : ChainEntry) → slice_get H j ≡ Some e → IsTriedOf b.instance b.options (AreMoves b.instance e.moves) (chain_tried e)
  chains-in j e there = each-in b (chain_tries H) search legal j (chain_tried e) (get-mapped chain_tried H j e there)

  few-chains : length H ≤ 10 ^ 6
  few-chains =
      let few = short b (chain_tries H) search.valid search.base legal in
      let len = length-map H chain_tried in
      omega (arith, few, len)

pub journals-differ : ChainJournalsTellSearchesApart
journals-differ b c i j H G one other same once_b once_c few_i few_j legal_H legal_G text =
    let short_b = lawful_short b.options one.base.lawful one.seed in
    let short_c = lawful_short c.options other.base.lawful other.seed in
    let cut = first_line (chain_heading b.options i) (chain_heading c.options j) (chain_lines_from 0 H) (chain_lines_from 0 G)
    (heading-lacks b.options i short_b few_i) (heading-lacks c.options j short_c few_j) text in
    let heading = headings-differ b.options c.options i j short_b short_c once_b once_c few_i few_j cut.0 in
    let few = few-chains b H one legal_H in
    let Right : Draft → Options → Type 0 = λ I o. (k : ℕ) (e : ChainEntry) → slice_get G k ≡ Some e → IsTriedOf I o (AreMoves I e.moves) (chain_tried e) in
    let right = subst (λ (I : Draft). Right I b.options) (sym same) (subst (λ (o : Options). Right c.instance o) (sym heading.0) (chains-in c G other legal_G)) in
    (heading.0, heading.1, lines-same b.instance (limits b.instance one.valid) b.options 0 H G (omega (arith, few)) (chains-in b H one legal_H) right cut.1)
