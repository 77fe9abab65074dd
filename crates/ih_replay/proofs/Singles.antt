-- Histories of single moves, and the entries that stand for what is tried.
use Rattle.std.proofs.Common.{◌≡◌, ◌∙◌, ℕ, suc, ◌+◌, refl, sym, ap, subst, List, [], ◌∷◌, ◌++◌, length, length-append, Some}
use Rattle.std.specs.Prelude.{slice_get}
use Rattle.std.proofs.lemmas.List.{length-map, map-append}
use Rattle.ih_tables.specs.Valid.{IsValid}
use Rattle.ih_plan.specs.declared.moves.Move.{Move}
use Rattle.ih_plan.specs.Draws.{move_of}
use Rattle.ih_journal.specs.declared.entries.Entry.{Entry}
use Rattle.ih_journal.specs.Tried.{Tried, tried, tries}
use Rattle.ih_journal.specs.Base.{Base}
use Rattle.ih_journal.specs.Grammar.{IsLineOf}
use Rattle.ih_journal.specs.Legal.{AreLegal, IsLegal}
use Rattle.ih_journal.specs.Texts.{line_text}
use Rattle.ih_journal.proofs.Growth.{legal-more, next-legal}
use Rattle.ih_journal.proofs.Mapped.{attempt-one, map-more}
use Rattle.ih_cellbook.specs.Keeping.{IsBase}
use Rattle.ih_cellbook.specs.BookState.{BookState}
use Rattle.ih_replay.specs.Refusals.{IsNextLine}
use Rattle.ih_replay.specs.ReplayState.{ReplayState, first_of, replayed_of, single, singles}
use Rattle.ih_replay.proofs.Lines.{line-of}

-- ---- what is tried, and its entry

pub singles-tries : (H : List Entry) → singles (tries H) ≡ H
singles-tries [] = refl
singles-tries (e ∷ es) = ap (λ (fs : List Entry). e ∷ fs) (singles-tries es)

single-tried : (e : Tried) (m : Move) → e.moves ≡ m ∷ [] → tried (single e) ≡ e
single-tried e m one =
    let moves : first_of e.moves ∷ [] ≡ e.moves = ap (λ ms. first_of ms ∷ []) one ∙ sym one in
    ap (λ ms. let f : Tried = record e { moves = ms } in f) moves

tries-singles : (G : List Tried) → ((k : ℕ) (e : Tried) → slice_get G k ≡ Some e → (m : Move) × (e.moves ≡ m ∷ [])) → tries (singles G) ≡ G
tries-singles [] one = refl
tries-singles (e ∷ es) one =
    let here = one 0 e refl in
    ap (λ (f : Tried). f ∷ tries (singles es)) (single-tried e here.0 here.1) ∙ ap (λ (fs : List Tried). e ∷ fs) (tries-singles es (λ k f h. one (suc k) f h))

-- a legal history of single moves is what its entries stand for
pub legal-singles : (b : Base) (G : List Tried) → AreLegal b 1 G → tries (singles G) ≡ G
legal-singles b G legal =
    tries-singles G (λ k e h. (move_of b.instance b.options.seed e.worker e.number, (legal k e h).drawn ∙ attempt-one b e.worker e.number))

-- ---- one entry more

pub longer : (H : List Entry) (e : Entry) → length (H ++ e ∷ []) ≡ length H + 1
longer H e = length-append H (e ∷ [])

pub legal-longer : (b : Base) (H : List Entry) (e : Entry) → AreLegal b 1 (tries H) → IsLegal b 1 (tries H) (tried e) → AreLegal b 1 (tries (H ++ e ∷ []))
legal-longer b H e legal one = subst (AreLegal b 1) (sym (map-more tried H e)) (legal-more b 1 (tries H) (tried e) legal one)

pub legal-next : (b : Base) (H es : List Entry) (e : Entry) → AreLegal b 1 (tries (H ++ e ∷ es)) → IsLegal b 1 (tries H) (tried e)
legal-next b H es e legal = next-legal b 1 (tries H) (tries es) (tried e) (subst (AreLegal b 1) (map-append tried H (e ∷ es)) legal)

-- the next line is the text of its entry, at its place
pub next-line-of : (b : Base) (H : List Entry) → IsValid b.instance → IsBase b → AreLegal b 1 (tries H) → (line : List ℕ) (e : Entry) → IsNextLine b H line e
    → IsLineOf b.instance b.options (length H) e line
next-line-of b H valid base legal line e next =
    let many = length-map H tried in
    subst (λ n. IsLineOf b.instance b.options n e line) many
    (line-of b (tries H) valid base legal line e next.legal (next.text ∙ ap (λ n. line_text b.options n e) (sym many)))

-- ---- what is seen of a replay

-- what holds of the book's history holds of the entries that were taken
pub as-taken : (P : Base → List Tried → Type 0) (v : BookState) (A : ReplayState) → AreLegal v.base 1 v.entries → replayed_of v ≡ A → P v.base v.entries
    → P A.base (tries A.entries)
as-taken P v A legal view h =
    subst (λ (s : ReplayState). P s.base (tries s.entries)) view (subst (P v.base) (sym (legal-singles v.base v.entries legal)) h)

-- the book's entries, by what each stands for
pub entries-taken : (v : BookState) (A : ReplayState) (es : List Entry) → replayed_of v ≡ A → tries es ≡ v.entries → es ≡ A.entries
entries-taken v A es view is = sym (singles-tries es) ∙ (ap singles is ∙ ap (λ (s : ReplayState). s.entries) view)

-- a book that was left as it was
pub stays-taken : (v w : BookState) (A : ReplayState) → replayed_of v ≡ A → w.base ≡ v.base → w.entries ≡ v.entries → replayed_of w ≡ A
stays-taken v w A view base same =
    ap (λ (c : Base). let s : ReplayState = record { base = c; entries = singles w.entries } in s) base
    ∙ (ap (λ (es : List Tried). let s : ReplayState = record { base = v.base; entries = singles es } in s) same ∙ view)

-- one entry more
pub more-taken : (v w : BookState) (A : ReplayState) (line : List ℕ) → AreLegal v.base 1 v.entries → replayed_of v ≡ A → w.base ≡ v.base
    → ((e : Entry) × IsLegal v.base 1 v.entries (tried e) × (line ≡ line_text v.base.options (length v.entries) e) × (w.entries ≡ v.entries ++ tried e ∷ []))
    → (e : Entry) × IsNextLine A.base A.entries line e × (replayed_of w ≡ record A { entries = A.entries ++ e ∷ [] })
more-taken v w A line history view base (e, legal, text, added) =
    let next : IsNextLine v.base (singles v.entries) line e = record {
      legal = subst (λ G. IsLegal v.base 1 G (tried e)) (sym (legal-singles v.base v.entries history)) legal;
      text = text ∙ ap (λ n. line_text v.base.options n e) (sym (length-map v.entries single));
    } in
    let entries : singles w.entries ≡ singles v.entries ++ e ∷ [] = ap singles added ∙ map-more single v.entries (tried e) in
    let new : replayed_of w ≡ record (replayed_of v) { entries = singles v.entries ++ e ∷ [] } =
    ap (λ (c : Base). let s : ReplayState = record { base = c; entries = singles w.entries } in s) base
    ∙ ap (λ (es : List Entry). let s : ReplayState = record { base = v.base; entries = es } in s) entries in
    subst (λ (s : ReplayState). (f : Entry) × IsNextLine s.base s.entries line f × (replayed_of w ≡ record s { entries = s.entries ++ f ∷ [] })) view (e, next, new)

-- what isn't the next line of the book is none of the replay
pub never-taken : (v : BookState) (A : ReplayState) (line : List ℕ) → AreLegal v.base 1 v.entries → replayed_of v ≡ A
    → ((e : Entry) → IsLegal v.base 1 v.entries (tried e) → line ≡ line_text v.base.options (length v.entries) e → ⊥)
    → (e : Entry) → IsNextLine A.base A.entries line e → ⊥
never-taken v A line history view never =
    subst (λ (s : ReplayState). (e : Entry) → IsNextLine s.base s.entries line e → ⊥) view
    (λ e next. never e (subst (λ G. IsLegal v.base 1 G (tried e)) (legal-singles v.base v.entries history) next.legal)
    (next.text ∙ ap (λ n. line_text v.base.options n e) (length-map v.entries single)))
