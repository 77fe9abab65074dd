-- Lines of journals, taken one after another.
use Rattle.std.proofs.Common.{◌≡◌, ℕ, suc, ◌+◌, ◌<◌, refl, arith, sym, ap, ◌∙◌, subst, Bool, true, false, List, [], ◌∷◌, ◌++◌, length, take, append_assoc, drop, Option, Some, None}
use Rattle.std.specs.Prelude.{◌==◌, cond, position}
use Rattle.std.specs.List.{onto_first}
use Rattle.std.proofs.lemmas.List.{append-nil, length-append, take_all}
use Rattle.std.proofs.lemmas.List.Elements.{All-nil, All-cons}
use Rattle.std.proofs.lemmas.List.Splits.{slice_split_at}
use Rattle.ih_tables.specs.Valid.{IsValid}
use Rattle.ih_journal.specs.declared.entries.Entry.{Entry}
use Rattle.ih_journal.specs.Tried.{tried, tries}
use Rattle.ih_journal.specs.Base.{Base}
use Rattle.ih_journal.specs.Grammar.{parted}
use Rattle.ih_journal.specs.Legal.{AreLegal, IsLegal}
use Rattle.ih_journal.specs.Texts.{line_text, lines_from}
use Rattle.ih_journal.proofs.Growth.{legal-none}
use Rattle.ih_journal.proofs.InRange.{limits}
use Rattle.ih_journal.proofs.Lacking.{Lacks, cut_joined, head_of, parted_same, same_byte, tail_of}
use Rattle.ih_journal.proofs.LineTexts.{line_lacks, lines_differ}
use Rattle.ih_journal.proofs.Separators.{parted_here, parted_some, parted_whole}
use Rattle.ih_cellbook.specs.Keeping.{IsBase}
use Rattle.ih_replay.specs.Laws.{LegalJournalsAreTaken, LegalJournalsDiffer, TakenLinesAreOfLegalHistories, Takes, line_texts}
use Rattle.ih_replay.specs.Refusals.{IsNextLine}
use Rattle.ih_replay.proofs.Singles.{legal-longer, legal-next, longer, next-line-of}

-- ---- what is taken is of a legal history

-- the entries that were added
record Adds (b : Base) (H : List Entry) (lines : List (List ℕ)) (G : List Entry) : Type 0 where
  added : List Entry
  joined : G ≡ H ++ added
  texts : lines ≡ line_texts b.options (length H) added
  legal : AreLegal b 1 (tries G)

adds-all : (b : Base) (H : List Entry) (lines : List (List ℕ)) (G : List Entry) → AreLegal b 1 (tries H) → Takes b H lines G → Adds b H lines G
unfolding Takes line_texts
adds-all b H [] G legal same = record { added = []; joined = same ∙ sym (append-nil H); texts = refl; legal = subst (λ (F : List Entry). AreLegal b 1 (tries F)) (sym same) legal }
adds-all b H (x ∷ xs) G legal h =
    let e = h.0 in
    let next : IsNextLine b H x e = h.1 in
    let rest = adds-all b (H ++ e ∷ []) xs G (legal-longer b H e legal next.legal) h.2 in
    record {
      added = e ∷ rest.added;
      joined = rest.joined ∙ append_assoc H (e ∷ []) rest.added;
      texts = rw (next.text, rest.texts) (ap (λ k. line_text b.options (length H) e ∷ line_texts b.options k rest.added) (longer H e));
      legal = rest.legal;
    }

pub taken-legal : TakenLinesAreOfLegalHistories
taken-legal b lines G taken =
    let adds = adds-all b [] lines G (legal-none b 1) taken in
    (adds.legal, adds.texts ∙ ap (line_texts b.options 0) (sym adds.joined))

-- ---- pieces between line feeds

piece-lacks : (c : ℕ) (bytes x : List ℕ) (xs : List (List ℕ)) → parted c bytes ≡ x ∷ xs → Lacks c x
piece-lacks c [] x xs h = subst (Lacks c) (head_of h) (All-nil (λ b. (b == c) ≡ false))
piece-lacks c (b ∷ bytes) x xs h = by_case (b == c) refl (parted c bytes) (λ p ps e. piece-lacks c bytes p ps e) h
  where
    by_case : (t : Bool) → (b == c) ≡ t → (ps : List (List ℕ)) → ((p : List ℕ) (qs : List (List ℕ)) → ps ≡ p ∷ qs → Lacks c p) → cond t ([] ∷ ps) (onto_first b ps) ≡ x ∷ xs → Lacks c x
    by_case true on ps rest h = subst (Lacks c) (head_of h) (All-nil (λ b. (b == c) ≡ false))
    by_case false off [] rest h = subst (Lacks c) (head_of h) (All-cons (λ b. (b == c) ≡ false) b [] off (All-nil (λ b. (b == c) ≡ false)))
    by_case false off (p ∷ ps) rest h = subst (Lacks c) (head_of h) (All-cons (λ b. (b == c) ≡ false) b p off (rest p ps refl))

-- a first piece and what stands behind its line feed
pub record IsCut (bytes x : List ℕ) (xs : List (List ℕ)) : Type 0 where
  pub rest : List ℕ
  pub joined : bytes ≡ x ++ (10 ∷ rest)
  pub pieces : parted 10 rest ≡ xs
  pub lacks : Lacks 10 x

pub cut-first : (bytes x y : List ℕ) (ys : List (List ℕ)) → parted 10 bytes ≡ x ∷ y ∷ ys → IsCut bytes x (y ∷ ys)
cut-first bytes x y ys h = by_case (position (λ b. b == 10) bytes) refl
  where
    by_case : (at : Option ℕ) → position (λ b. b == 10) bytes ≡ at → IsCut bytes x (y ∷ ys)
    by_case None e = absurd (let no : [] ≡ y ∷ ys = tail_of (sym (parted_whole 10 bytes e) ∙ h) in cc)
    by_case (Some i) e =
        let here = parted_here 10 bytes i e in
        let behind : parted 10 (drop (i + 1) bytes) ≡ y ∷ ys = tail_of (sym here ∙ h) in
        record {
          rest = drop (i + 1) bytes;
          joined = cut_joined 10 bytes x (drop (i + 1) bytes) (h ∙ ap (λ zs. x ∷ zs) (sym behind));
          pieces = behind;
          lacks = piece-lacks 10 bytes x (y ∷ ys) h;
        }

cut-at : (a x : List ℕ) → Lacks 10 a → parted 10 (a ++ (10 ∷ x)) ≡ a ∷ parted 10 x
cut-at a x lacks = slice_split_at (λ b. b == 10) a 10 x lacks (same_byte 10)

same-cut : (a b x y : List ℕ) → Lacks 10 a → Lacks 10 b → a ++ (10 ∷ x) ≡ b ++ (10 ∷ y) → (a ≡ b) × (x ≡ y)
same-cut a b x y la lb h =
    let parts = sym (cut-at a x la) ∙ ap (parted 10) h ∙ cut-at b y lb in
    (head_of parts, parted_same 10 x y (tail_of parts))

none-left : (xs ys : List ℕ) → xs ++ ys ≡ [] → (xs ≡ []) × (ys ≡ [])
none-left [] ys h = (refl, h)
none-left (x ∷ xs) ys h = absurd (let no : x ∷ (xs ++ ys) ≡ [] = h in cc)

-- ---- the whole lines of a journal that may be cut off are taken

record TakesFrom (b : Base) (H es : List Entry) (more : List ℕ) (lines : List (List ℕ)) (last : List ℕ) : Type 0 where
  taken : Takes b H lines (H ++ take (length lines) es)
  whole : more ≡ [] → (last ≡ []) × (length lines ≡ length es)

module _ (b : Base) (valid : IsValid b.instance) (base : IsBase b) where
  lacks-line : (H : List Entry) (e : Entry) → AreLegal b 1 (tries H) → IsLegal b 1 (tries H) (tried e) → Lacks 10 (line_text b.options (length H) e)
  lacks-line H e history legal =
      line_lacks b.instance b.options (length H) e (line_text b.options (length H) e) (limits b.instance valid)
      (next-line-of b H valid base history (line_text b.options (length H) e) e (record { legal = legal; text = refl }))

  takes-from : (H es : List Entry) (bytes more : List ℕ) (lines : List (List ℕ)) (last : List ℕ) → AreLegal b 1 (tries H) → AreLegal b 1 (tries (H ++ es))
      → bytes ++ more ≡ lines_from b.options (length H) es → parted 10 bytes ≡ lines ++ last ∷ [] → TakesFrom b H es more lines last
  unfolding Takes lines_from
  takes-from H [] bytes more [] last history legal text pieces =
      let none = none-left bytes more text in
      let empty : last ≡ [] = sym (head_of (ap (parted 10) (sym none.0) ∙ pieces)) in
      record { taken = append-nil H; whole = λ h. (empty, refl) }
  takes-from H [] bytes more (x ∷ xs) last history legal text pieces =
      let none = none-left bytes more text in
      let ends : [] ≡ xs ++ last ∷ [] = tail_of (ap (parted 10) (sym none.0) ∙ pieces) in
      absurd (let len = simp (length-append) at (ap length ends) in omega (arith, len))
  takes-from H (e ∷ es) bytes more [] last history legal text pieces = record {
    taken = append-nil H;
    whole = λ none.
        let one = legal-next b H es e legal in
        let all : bytes ≡ line_text b.options (length H) e ++ (10 ∷ lines_from b.options (length H + 1) es) =
        sym (append-nil bytes) ∙ ap (λ ys. bytes ++ ys) (sym none) ∙ text ∙ append_assoc (line_text b.options (length H) e) (10 ∷ []) (lines_from b.options (length H + 1) es) in
        let cut = sym (cut-at (line_text b.options (length H) e) (lines_from b.options (length H + 1) es) (lacks-line H e history one)) ∙ ap (parted 10) (sym all) ∙ pieces in
        let some = parted_some 10 (lines_from b.options (length H + 1) es) in
        let len = ap length (tail_of cut) in
        absurd (omega (arith, some, len));
  }
  takes-from H (e ∷ es) bytes more (x ∷ xs) last history legal text pieces =
      let one = legal-next b H es e legal in
      let cut = cut-behind bytes x xs last pieces in
      let both : x ++ (10 ∷ (cut.rest ++ more)) ≡ line_text b.options (length H) e ++ (10 ∷ lines_from b.options (length H + 1) es) =
      sym (append_assoc x (10 ∷ cut.rest) more) ∙ ap (λ ys. ys ++ more) (sym cut.joined) ∙ text ∙ append_assoc (line_text b.options (length H) e) (10 ∷ []) (lines_from b.options (length H + 1) es) in
      let same = same-cut x (line_text b.options (length H) e) (cut.rest ++ more) (lines_from b.options (length H + 1) es) cut.lacks (lacks-line H e history one) both in
      let next : IsNextLine b H x e = record { legal = one; text = same.0 } in
      let rest = takes-from (H ++ e ∷ []) es cut.rest more xs last (legal-longer b H e history one)
      (subst (λ (F : List Entry). AreLegal b 1 (tries F)) (sym (append_assoc H (e ∷ []) es)) legal)
      (same.1 ∙ ap (λ k. lines_from b.options k es) (sym (longer H e))) cut.pieces in
      record {
        taken = (e, next, subst (Takes b (H ++ e ∷ []) xs) (append_assoc H (e ∷ []) (take (length xs) es)) rest.taken);
        whole = λ none. let ends = rest.whole none in (ends.0, ap suc ends.1);
      }
    where
      cut-behind : (bytes x : List ℕ) (xs : List (List ℕ)) (last : List ℕ) → parted 10 bytes ≡ x ∷ xs ++ last ∷ [] → IsCut bytes x (xs ++ last ∷ [])
      cut-behind bytes x [] last h = cut-first bytes x last [] h
      cut-behind bytes x (y ∷ ys) last h = cut-first bytes x y (ys ++ last ∷ []) h

pub journals-taken : LegalJournalsAreTaken
journals-taken b G bytes more lines last valid base legal text pieces =
    let from = takes-from b valid base [] G bytes more lines last (legal-none b 1) legal text pieces in
    record { taken = from.taken; whole = from.whole }

-- ---- lines lead to one history

takes-one : (b : Base) → IsValid b.instance → IsBase b → (F : List Entry) (lines : List (List ℕ)) (H G : List Entry) → AreLegal b 1 (tries F) → Takes b F lines H → Takes b F lines G → H ≡ G
unfolding Takes
takes-one b valid base F [] H G legal to fro = to ∙ sym fro
takes-one b valid base F (x ∷ xs) H G legal to fro =
    let one : IsNextLine b F x to.0 = to.1 in
    let other : IsNextLine b F x fro.0 = fro.1 in
    let same : fro.0 ≡ to.0 =
    (lines_differ b.instance b.options (length F) (length F) fro.0 to.0 x (limits b.instance valid) (next-line-of b F valid base legal x fro.0 other)
    (next-line-of b F valid base legal x to.0 one)).1 in
    takes-one b valid base (F ++ to.0 ∷ []) xs H G (legal-longer b F to.0 legal one.legal) to.2 (subst (λ e. Takes b (F ++ e ∷ []) xs G) same fro.2)

-- the pieces but the last, and the last
record HasLast (ps : List (List ℕ)) : Type 0 where
  front : List (List ℕ)
  last : List ℕ
  joined : ps ≡ front ++ last ∷ []

has-last : (ps : List (List ℕ)) → 0 < length ps → HasLast ps
has-last [] some = absurd (omega arith)
has-last (x ∷ []) some = record { front = []; last = x; joined = refl }
has-last (x ∷ y ∷ ys) some =
    let rest = has-last (y ∷ ys) (omega arith) in
    record { front = x ∷ rest.front; last = rest.last; joined = ap (λ zs. x ∷ zs) rest.joined }

pub journals-differ : LegalJournalsDiffer
journals-differ b H G valid base legal_H legal_G same =
    let bytes = lines_from b.options 0 H in
    let cut = has-last (parted 10 bytes) (parted_some 10 bytes) in
    let own = takes-from b valid base [] H bytes [] cut.front cut.last (legal-none b 1) legal_H (append-nil bytes) cut.joined in
    let other = takes-from b valid base [] G bytes [] cut.front cut.last (legal-none b 1) legal_G (append-nil bytes ∙ same) cut.joined in
    let to : Takes b [] cut.front H = subst (Takes b [] cut.front) (ap (λ n. take n H) (own.whole refl).1 ∙ take_all (length H) H (omega arith)) own.taken in
    let fro : Takes b [] cut.front G = subst (Takes b [] cut.front) (ap (λ n. take n G) (other.whole refl).1 ∙ take_all (length G) G (omega arith)) other.taken in
    takes-one b valid base [] cut.front H G (legal-none b 1) to fro
