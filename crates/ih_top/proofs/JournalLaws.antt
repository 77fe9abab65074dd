-- What is taken of the journal of a legal history that is cut off or damaged.
use Rattle.std.proofs.Common.{zero, suc, ◌≡◌, ◌∙◌, ℕ, ◌+◌, ◌<◌, refl, sym, ap, ap₂, subst, arith, inl, inr, Bool, true, false, Option, Some, None, List, [], ◌∷◌, ◌++◌, append_assoc, length, take, drop}
use Rattle.std.specs.Prelude.{◌==◌, ◌⊎◌, position, slice_get}
use Rattle.std.specs.List.{count_by, onto_first}
use Rattle.std.proofs.lemmas.List.{append-nil, append_cancel_left, length-append, take-append-drop, take_all}
use Rattle.std.proofs.lemmas.List.Elements.{All-cons, All-nil}
use Rattle.std.proofs.lemmas.List.Splits.{length-slice_split, slice_split-cons_no, slice_split-cons_yes, slice_split_at, slice_split_none}
use Rattle.ih_top.specs.Below.Wards.{IsValid, JournalRefusal}
use Rattle.ih_top.specs.Below.Searches.{AreLegal, Base, Entry, IsBase, IsFull, IsLegal, IsNextLine, LegalJournalsAreTaken, LegalJournalsDiffer, Options, TakenLinesAreOfLegalHistories, Takes, ended, line_text, tried, tries}
use Rattle.ih_journal.specs.Grammar.{parted}
use Rattle.ih_journal.specs.Texts.{lines_from}
use Rattle.ih_journal.proofs.Growth.{attempt-parts, legal-more}
use Rattle.ih_journal.proofs.Lacking.{parted_same}
use Rattle.ih_journal.proofs.Mapped.{get-mapped, map-more, map-take}
use Rattle.ih_journal.proofs.Separators.{parted_some}
use Rattle.ih_replay.specs.Laws.{line_texts}
use Rattle.ih_top.specs.JournalLines.{Begins, HasLine, HasNoLineFeed, IsRefusedAt}
use Rattle.ih_top.specs.Laws.{RefusedLinesAreNotFull, WholeLinesAreSalvaged}
use Rattle.ih_top.proofs.FirstLines.{ended-some, first-apart, is_feed, line_here, no_line}

-- ---- pieces between line feeds

abbrev EachLacks : List (List ℕ) → Type 0
EachLacks [] = Unit {0}
EachLacks (x ∷ xs) = HasNoLineFeed x × EachLacks xs

onto-lacks : (b : ℕ) (ps : List (List ℕ)) → (b == 10) ≡ false → EachLacks ps → EachLacks (onto_first b ps)
onto-lacks b [] other each = (All-cons (λ c. (c == 10) ≡ false) b [] other (All-nil (λ c. (c == 10) ≡ false)), tt)
onto-lacks b (p ∷ ps) other each = (All-cons (λ c. (c == 10) ≡ false) b p other each.0, each.1)

pieces-lack : (bs : List ℕ) → EachLacks (parted 10 bs)
pieces-lack [] = (All-nil (λ c. (c == 10) ≡ false), tt)
pieces-lack (b ∷ bs) = go (is_feed b) refl (pieces-lack bs)
  where
    go : (t : Bool) → is_feed b ≡ t → EachLacks (parted 10 bs) → EachLacks (parted 10 (b ∷ bs))
    go true is rest = subst EachLacks (sym (slice_split-cons_yes is_feed b bs is)) (All-nil (λ c. (c == 10) ≡ false), rest)
    go false is rest = subst EachLacks (sym (slice_split-cons_no is_feed b bs is)) (onto-lacks b (parted 10 bs) is rest)

each-left : (xs ys : List (List ℕ)) → EachLacks (xs ++ ys) → EachLacks xs
each-left [] ys each = tt
each-left (x ∷ xs) ys each = (each.0, each-left xs ys each.1)

each-right : (xs ys : List (List ℕ)) → EachLacks (xs ++ ys) → EachLacks ys
each-right [] ys each = each
each-right (x ∷ xs) ys each = each-right xs ys each.1

split-last : (xs : List (List ℕ)) → 0 < length xs → (ys : List (List ℕ)) × (y : List ℕ) × (xs ≡ ys ++ y ∷ [])
split-last [] some = absurd (omega (arith, some))
split-last (x ∷ []) some = ([], x, refl)
split-last (x ∷ y ∷ ys) some = let rest = split-last (y ∷ ys) (omega arith) in (x ∷ rest.0, rest.1, ap (λ t. x ∷ t) rest.2)

-- of two joins of one list the first part of one begins that of the other
joins-apart : {A : Type 0} (xs ys zs ws : List A) → xs ++ ys ≡ zs ++ ws
    → ((r : List A) × (zs ≡ xs ++ r) × (ys ≡ r ++ ws)) ⊎ ((r : List A) × (xs ≡ zs ++ r) × (ws ≡ r ++ ys))
joins-apart [] ys zs ws h = inl (zs, refl, h)
joins-apart (x ∷ xs) ys [] ws h = inr (x ∷ xs, refl, sym h)
joins-apart (x ∷ xs) ys (z ∷ zs) ws h =
    let same : x ∷ (xs ++ ys) ≡ z ∷ (zs ++ ws) = h in
    let first : x ≡ z = cc in
    let rest : xs ++ ys ≡ zs ++ ws = cc in
    elim (joins-apart xs ys zs ws rest) [
      | inl p ↦ inl (p.0, ap₂ (λ a t. a ∷ t) (sym first) p.1, p.2)
      | inr p ↦ inr (p.0, ap₂ (λ a t. a ∷ t) first p.1, p.2)
    ]

-- ---- the lines of histories

texts-length : (o : Options) (k : ℕ) (H : List Entry) → length (line_texts o k H) ≡ length H
unfolding line_texts
texts-length o k [] = refl
texts-length o k (e ∷ es) = let rest = texts-length o (k + 1) es in omega (arith, rest)

texts-append : (o : Options) (k : ℕ) (A B : List Entry) → line_texts o k (A ++ B) ≡ line_texts o k A ++ line_texts o (k + length A) B
unfolding line_texts
texts-append o k [] B = ap (λ n. line_texts o n B) (omega arith)
texts-append o k (e ∷ A) B =
    ap (λ r. line_text o k e ∷ r) (texts-append o (k + 1) A B ∙ ap (λ n. line_texts o (k + 1) A ++ line_texts o n B) (omega arith))

lines-append : (o : Options) (k : ℕ) (A B : List Entry) → lines_from o k (A ++ B) ≡ lines_from o k A ++ lines_from o (k + length A) B
unfolding lines_from
lines-append o k [] B = ap (λ n. lines_from o n B) (omega arith)
lines-append o k (e ∷ A) B =
    ap (λ r. ended (line_text o k e) ++ r) (lines-append o (k + 1) A B ∙ ap (λ n. lines_from o (k + 1) A ++ lines_from o n B) (omega arith))
    ∙ sym (append_assoc (ended (line_text o k e)) (lines_from o (k + 1) A) (lines_from o (k + length (e ∷ A)) B))

-- the lines are cut at their line feeds
cut-lines : (o : Options) (k : ℕ) (H : List Entry) (rest : List ℕ) → EachLacks (line_texts o k H)
    → parted 10 (lines_from o k H ++ rest) ≡ line_texts o k H ++ parted 10 rest
unfolding line_texts lines_from
cut-lines o k [] rest each = refl
cut-lines o k (e ∷ es) rest each =
    ap (parted 10) (append_assoc (ended (line_text o k e)) (lines_from o (k + 1) es) rest
    ∙ append_assoc (line_text o k e) (10 ∷ []) (lines_from o (k + 1) es ++ rest))
    ∙ (slice_split_at is_feed (line_text o k e) 10 (lines_from o (k + 1) es ++ rest) each.0 refl
    ∙ ap (λ r. line_text o k e ∷ r) (cut-lines o (k + 1) es rest each.1))

first-lacks : (o : Options) (k : ℕ) (e : Entry) → EachLacks (line_texts o k (e ∷ [])) → HasNoLineFeed (line_text o k e)
unfolding line_texts
first-lacks o k e each = each.0

get-drop : (xs : List Entry) (n : ℕ) (x : Entry) (ys : List Entry) → drop n xs ≡ x ∷ ys → slice_get xs n ≡ Some x
get-drop [] zero x ys h = absurd (let clash : [] ≡ x ∷ ys = h in cc)
get-drop [] (suc n) x ys h = absurd (let clash : [] ≡ x ∷ ys = h in cc)
get-drop (z ∷ xs) zero x ys h = let same : z ∷ xs ≡ x ∷ ys = h in let head : z ≡ x = cc in ap Some head
get-drop (z ∷ xs) (suc n) x ys h = get-drop xs n x ys h

module _ (taken : LegalJournalsAreTaken) (differ : LegalJournalsDiffer) (texts : TakenLinesAreOfLegalHistories) (b : Base) (valid : IsValid b.instance) (base : IsBase b) where
  own-texts : (G : List Entry) → AreLegal b 1 (tries G) → parted 10 (lines_from b.options 0 G) ≡ line_texts b.options 0 G ++ [] ∷ []
  own-texts G legal =
      let bytes = lines_from b.options 0 G in
      let p = split-last (parted 10 bytes) (parted_some 10 bytes) in
      let t = taken b G bytes [] p.0 p.1 valid base legal (append-nil bytes) p.2 in
      let whole = t.whole refl in
      let len = whole.1 in
      let all : take (length p.0) G ≡ G = take_all (length p.0) G (omega (arith, len)) in
      let is : p.0 ≡ line_texts b.options 0 G = (texts b p.0 G (subst (Takes b [] p.0) all t.taken)).1 in
      p.2 ∙ ap₂ (λ ls l. ls ++ l ∷ []) is whole.0

  each-text : (G : List Entry) → AreLegal b 1 (tries G) → EachLacks (line_texts b.options 0 G)
  each-text G legal = each-left (line_texts b.options 0 G) ([] ∷ []) (subst EachLacks (own-texts G legal) (pieces-lack (lines_from b.options 0 G)))

  module _ (G H : List Entry) (rest : List ℕ) (legal_G : AreLegal b 1 (tries G)) (legal_H : AreLegal b 1 (tries H)) (joins : lines_from b.options 0 H ++ rest ≡ lines_from b.options 0 G) where
    -- a legal history whose lines begin those of another begins it
    prefix : H ≡ take (length H) G
    prefix =
        let o = b.options in
        let lines = line_texts o 0 H in
        let K = take (length lines) G in
        let t = taken b G (lines_from o 0 H) rest lines [] valid base legal_G joins (own-texts H legal_H) in
        let u = texts b lines K t.taken in
        let same : lines_from o 0 H ≡ lines_from o 0 K =
        parted_same 10 (lines_from o 0 H) (lines_from o 0 K)
        (own-texts H legal_H ∙ (ap (λ ls. ls ++ [] ∷ []) u.1 ∙ sym (own-texts K u.0))) in
        differ b H K valid base legal_H u.0 same ∙ ap (λ n. take n G) (texts-length o 0 H)

    -- what follows its lines is those of the other entries
    rest-is : rest ≡ lines_from b.options (length H) (drop (length H) G)
    rest-is =
        let o = b.options in
        let parts : G ≡ H ++ drop (length H) G = sym (take-append-drop (length H) G) ∙ ap (λ es. es ++ drop (length H) G) (sym prefix) in
        let all : lines_from o 0 G ≡ lines_from o 0 H ++ lines_from o (0 + length H) (drop (length H) G) =
        ap (lines_from o 0) parts ∙ lines-append o 0 H (drop (length H) G) in
        let place : 0 + length H ≡ length H = omega arith in
        append_cancel_left (lines_from o 0 H) rest (lines_from o (0 + length H) (drop (length H) G)) (joins ∙ all)
        ∙ ap (λ n. lines_from o n (drop (length H) G)) place

    module _ (e : Entry) (es : List Entry) (some : drop (length H) G ≡ e ∷ es) where
      next-legal : IsLegal b 1 (tries H) (tried e)
      next-legal = subst (λ K. IsLegal b 1 K (tried e)) (sym (map-take tried (length H) G) ∙ ap (λ es. tries es) (sym prefix))
          (legal_G (length H) (tried e) (get-mapped tried G (length H) e (get-drop G (length H) e es some)))

      next-lacks : HasNoLineFeed (line_text b.options (length H) e)
      next-lacks =
          let o = b.options in
          let each = subst EachLacks (texts-append o 0 H (e ∷ [])) (each-text (H ++ e ∷ [])
          (subst (AreLegal b 1) (sym (map-more tried H e)) (legal-more b 1 (tries H) (tried e) legal_H next-legal))) in
          let last : EachLacks (line_texts o (0 + length H) (e ∷ [])) = each-right (line_texts o 0 H) (line_texts o (0 + length H) (e ∷ [])) each in
          let place : 0 + length H ≡ length H = omega arith in
          subst (λ n. HasNoLineFeed (line_text o n e)) place (first-lacks o (0 + length H) e last)

      next-joins : rest ≡ ended (line_text b.options (length H) e) ++ lines_from b.options (length H + 1) es
      unfolding lines_from
      next-joins = rest-is ∙ ap (lines_from b.options (length H)) some

      pub next-line : HasLine rest (line_text b.options (length H) e) (lines_from b.options (length H + 1) es)
      next-line = record { joins = next-joins; first = next-lacks }

      pub next-is : IsNextLine b H (line_text b.options (length H) e) e
      next-is = record { legal = next-legal; text = refl }

    last-joins : drop (length H) G ≡ [] → rest ≡ []
    unfolding lines_from
    last-joins none = rest-is ∙ ap (lines_from b.options (length H)) none

    whole : drop (length H) G ≡ [] → G ≡ H
    whole none = sym (take-append-drop (length H) G) ∙ (ap (λ es. take (length H) G ++ es) none ∙ (append-nil (take (length H) G) ∙ sym prefix))

  refused-not-full : (bytes : List ℕ) (H : List Entry) (e : JournalRefusal) → IsRefusedAt b bytes H e → (G : List Entry) → IsFull b 1 (tries G)
      → bytes ≡ lines_from b.options 0 G → ⊥
  refused-not-full bytes H e refused G full is = go (drop (length H) G) refl
    where
      joins : lines_from b.options 0 H ++ refused.rest ≡ lines_from b.options 0 G
      joins = sym refused.begins.joins ∙ is

      go : (D : List Entry) → drop (length H) G ≡ D → ⊥
      go [] none =
          let nothing = last-joins G H refused.rest full.legal refused.begins.legal joins none in
          let done = subst (λ es. IsFull b 1 (tries es)) (whole G H refused.rest full.legal refused.begins.legal joins none) full in
          elim refused.reason [
            | inl line ↦ ended-some line.0 line.1 (sym nothing ∙ line.2.joins)
            | inr (inl unended) ↦ unended.0 nothing
            | inr (inr early) ↦ let clash : true ≡ false = sym (done.done early.2.0 early.2.1.0) ∙ early.2.1.1 in cc
          ]
      go (d ∷ es) some = refused.begins.longest (line_text b.options (length H) d) (lines_from b.options (length H + 1) es) d
          (next-line G H refused.rest full.legal refused.begins.legal joins d es some) (next-is G H refused.rest full.legal refused.begins.legal joins d es some)

  module _ (G : List Entry) (full : IsFull b 1 (tries G)) where
    -- nothing comes after a full history
    none-next : (e : Entry) → IsLegal b 1 (tries G) (tried e) → ⊥
    none-next e legal =
        let going = attempt-parts b.options (tries G) e.worker _ legal.entry.attempt in
        let clash : true ≡ false = sym (full.done e.worker legal.entry.worker) ∙ going.0 in cc

    -- a legal history whose lines begin with its own is it
    pub no-longer : (H : List Entry) (r : List ℕ) → AreLegal b 1 (tries H) → lines_from b.options 0 G ++ r ≡ lines_from b.options 0 H → H ≡ G
    no-longer H r legal joins = go (drop (length G) H) refl
      where
        go : (D : List Entry) → drop (length G) H ≡ D → H ≡ G
        go [] none = whole H G r legal full.legal joins none
        go (d ∷ es) some = absurd (none-next d (next-legal H G r legal full.legal joins d es some))

    -- whatever is behind its lines, it is the longest legal history whose lines the bytes begin with
    pub longest-is : (extra : List ℕ) (H : List Entry) (rest : List ℕ) → Begins b (lines_from b.options 0 G ++ extra) H rest → H ≡ G
    longest-is extra H rest begins = elim (joins-apart (lines_from b.options 0 H) rest (lines_from b.options 0 G) extra (sym begins.joins)) [
      | inl p ↦ go p.0 (sym p.1) p.2 (drop (length H) G) refl
      | inr p ↦ no-longer H p.0 begins.legal (sym p.1)
    ]
      where
        go : (r : List ℕ) → lines_from b.options 0 H ++ r ≡ lines_from b.options 0 G → rest ≡ r ++ extra → (D : List Entry) → drop (length H) G ≡ D → H ≡ G
        go r joins is [] none = sym (whole G H r full.legal begins.legal joins none)
        go r joins is (d ∷ es) some =
            let line = next-line G H r full.legal begins.legal joins d es some in
            absurd (begins.longest (line_text b.options (length H) d) (lines_from b.options (length H + 1) es ++ extra) d
            (record {
              joins = is
                  ∙ (ap (λ t. t ++ extra) line.joins
                  ∙ append_assoc (ended (line_text b.options (length H) d)) (lines_from b.options (length H + 1) es) extra);
              first = line.first;
            })
            (next-is G H r full.legal begins.legal joins d es some))

  salvaged-whole : (G : List Entry) (bytes more : List ℕ) (H : List Entry) (rest : List ℕ) → AreLegal b 1 (tries G) → bytes ++ more ≡ lines_from b.options 0 G
      → Begins b bytes H rest → length H ≡ count_by is_feed bytes
  salvaged-whole G bytes more H rest legal cut begins =
      let cuts : parted 10 bytes ≡ line_texts b.options 0 H ++ rest ∷ [] =
      ap (parted 10) begins.joins ∙ (cut-lines b.options 0 H rest (each-text H begins.legal)
      ∙ ap (λ ps. line_texts b.options 0 H ++ ps) (slice_split_none is_feed rest (lacks (position is_feed rest) refl))) in
      let len = simp (length-append) at (ap length cuts) in
      let many = texts-length b.options 0 H in
      let feeds = length-slice_split is_feed bytes in
      omega (arith, len, many, feeds)
    where
      joins : lines_from b.options 0 H ++ (rest ++ more) ≡ lines_from b.options 0 G
      joins = sym (append_assoc (lines_from b.options 0 H) rest more) ∙ (ap (λ t. t ++ more) (sym begins.joins) ∙ cut)

      never : (line left : List ℕ) → HasLine rest line left → (D : List Entry) → drop (length H) G ≡ D → ⊥
      never line left has [] none =
          let nothing = last-joins G H (rest ++ more) legal begins.legal joins none in
          ended-some line (left ++ more) (sym nothing ∙ (ap (λ t. t ++ more) has.joins ∙ append_assoc (ended line) left more))
      never line left has (d ∷ es) some =
          let first = first-apart line (line_text b.options (length H) d) (left ++ more) (lines_from b.options (length H + 1) es)
          has.first (next-line G H (rest ++ more) legal begins.legal joins d es some).first
          (sym (append_assoc (ended line) left more) ∙ (ap (λ t. t ++ more) (sym has.joins)
          ∙ (next-line G H (rest ++ more) legal begins.legal joins d es some).joins)) in
          begins.longest line left d has (record { legal = next-legal G H (rest ++ more) legal begins.legal joins d es some; text = first.0 })

      lacks : (o : Option ℕ) → position is_feed rest ≡ o → HasNoLineFeed rest
      lacks None none = no_line rest none
      lacks (Some i) some = absurd (let has = (line_here rest i some).1 in never (take i rest) (drop (i + 1) rest) has (drop (length H) G) refl)

pub refused-lines-not-full : LegalJournalsAreTaken → LegalJournalsDiffer → TakenLinesAreOfLegalHistories → RefusedLinesAreNotFull
refused-lines-not-full taken differ texts b bytes H e valid base refused G full is = refused-not-full taken differ texts b valid base bytes H e refused G full is

pub whole-lines-salvaged : LegalJournalsAreTaken → LegalJournalsDiffer → TakenLinesAreOfLegalHistories → WholeLinesAreSalvaged
whole-lines-salvaged taken differ texts b G bytes more H rest valid base legal cut begins =
    salvaged-whole taken differ texts b valid base G bytes more H rest legal cut begins
