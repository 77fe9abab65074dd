-- A line by its fields.
use Rattle.std.proofs.Common.{◌≡◌, inl, inr, ℕ, zero, suc, ◌<◌, ◌^◌, refl, sym, ◌∙◌, ap, arith, List, [], ◌∷◌, ◌++◌, length, decimal, All, Some, Result, Ok, Err, ◌≤◌}
use Rattle.std.specs.Prelude.{slice_get, IfOk, IfErr}
use Rattle.std.specs.List.{join_with_byte}
use Rattle.std.proofs.lemmas.Fmt.{decimal_injective}
use Rattle.std.proofs.lemmas.Bool.{le-ltb}
use Rattle.std.proofs.lemmas.List.Elements.{All-nil, All-cons}
use Rattle.ih_tables.specs.declared.drafts.Draft.{Draft}
use Rattle.ih_tables.specs.declared.bills.Bill.{Bill}
use Rattle.ih_plan.specs.declared.moves.Move.{Move}
use Rattle.ih_journal.specs.declared.settings.Options.{Options}
use Rattle.ih_journal.specs.declared.entries.Entry.{Entry}
use Rattle.ih_journal.specs.declared.entries.Verdict.{Verdict}
use Rattle.ih_journal.specs.declared.parse.BadLine.{BadLine}
use Rattle.ih_journal.specs.Texts.{fields, line_text, again_field, move_text, price_text, verdict_text}
use Rattle.ih_journal.specs.Grammar.{parted, FieldKind, count_kind, move_kind, price_kind, verdict_kind, again_kind, kinds, IsField, IsFirstWrong, IsLineOf}
use Rattle.ih_journal.specs.Pieces.{fields_from}
use Rattle.ih_journal.proofs.InRange.{IsLimited, move_short}
use Rattle.ih_journal.proofs.MoveTexts.{move_lacks, moves_differ}
use Rattle.ih_journal.proofs.PriceTexts.{price_priced, all_of, prices_differ}
use Rattle.ih_journal.proofs.VerdictTexts.{verdict_lacks, verdicts_differ}
use Rattle.ih_journal.proofs.Lacking.{Lacks, lacks_decimal, lacks_joined, signed_lack, parted_joined, parted_text, low_mark, head_of, tail_of}
use Rattle.ih_journal.proofs.Literals.{entry}

-- ---- what was read field by field is a line

pub line_read : (o : Options) (bytes : List ℕ) (k : ℕ) (e : Entry) (r1 r2 r3 r4 r5 r6 r7 r8 : List (List ℕ))
    → fields_from bytes 0 ≡ decimal k ∷ r1 → r1 ≡ decimal e.worker ∷ r2 → r2 ≡ decimal e.number ∷ r3 → r3 ≡ again_field o.retries e.again ++ r4
    → r4 ≡ decimal e.seen ∷ r5 → r5 ≡ move_text e.mv ∷ r6 → r6 ≡ price_text e.price ∷ r7 → r7 ≡ verdict_text e.verdict ∷ r8 → r8 ≡ [] → bytes ≡ line_text o k e
unfolding fields
line_read o bytes k e r1 r2 r3 r4 r5 r6 r7 r8 f0 f1 f2 f3 f4 f5 f6 f7 f8 =
    let whole : fields_from bytes 0 ≡ parted 32 bytes = rw (le-ltb (length bytes) 0 (omega arith)) refl in
    let all : parted 32 bytes ≡ fields o k e = sym whole ∙ rw (f0, f1, f2, f3, f4, f5, f6, f7, f8) refl in
    parted_text 32 bytes (fields o k e) all

-- ---- a line is right field by field

-- the fields are of these kinds, one by one
abbrev pub Fits : Draft → List FieldKind → List (List ℕ) → Type 0
Fits I [] [] = Unit {0}
Fits I [] (x ∷ xs) = ⊥
Fits I (k ∷ ks) [] = ⊥
Fits I (k ∷ ks) (x ∷ xs) = IsField I k x × Fits I ks xs

fits_len : (I : Draft) (ks : List FieldKind) (xs : List (List ℕ)) → Fits I ks xs → length ks ≡ length xs
fits_len I [] [] h = refl
fits_len I [] (x ∷ xs) h = absurd h
fits_len I (k ∷ ks) [] h = absurd h
fits_len I (k ∷ ks) (x ∷ xs) h = ap suc (fits_len I ks xs h.1)

-- the field at an index
record Here (I : Draft) (ks : List FieldKind) (xs : List (List ℕ)) (i : ℕ) : Type 0 where
  kind : FieldKind
  field : List ℕ
  wanted : slice_get ks i ≡ Some kind
  there : slice_get xs i ≡ Some field
  fits : IsField I kind field

fits_here : (I : Draft) (ks : List FieldKind) (xs : List (List ℕ)) (i : ℕ) → Fits I ks xs → i < length ks → Here I ks xs i
fits_here I [] xs i h lt = absurd (omega arith)
fits_here I (k ∷ ks) [] i h lt = absurd h
fits_here I (k ∷ ks) (x ∷ xs) zero h lt = record { kind = k; field = x; wanted = refl; there = refl; fits = h.0 }
fits_here I (k ∷ ks) (x ∷ xs) (suc i) h lt =
    let later = fits_here I ks xs i h.1 (omega arith) in
    record { kind = later.kind; field = later.field; wanted = later.wanted; there = later.there; fits = later.fits }

-- no field has a space or a line feed
field_lacks : (m : ℕ) (I : Draft) (k : FieldKind) (x : List ℕ) → m ≤ 32 → IsLimited I → IsField I k x → Lacks m x
field_lacks m I count_kind x low l h = rw (h.2) (lacks_decimal m h.0 (low_mark m low) (let small = h.1 in omega arith))
field_lacks m I move_kind x low l h = rw (h.2) (move_lacks m h.0 low (move_short I h.0 l h.1))
field_lacks m I price_kind x low l h =
    let priced = price_priced h.0 (price_text h.0) h.1 refl in
    rw (h.2) (lacks_joined m 44 _ (λ e. omega (arith, e, low)) (signed_lack m (all_of h.0) (low_mark m low) priced.small))
field_lacks m I verdict_kind x low l h = rw (h.2) (verdict_lacks m I h.0 low l h.1)

fits_lack : (m : ℕ) (I : Draft) (ks : List FieldKind) (xs : List (List ℕ)) → m ≤ 32 → IsLimited I → Fits I ks xs → All (Lacks m) xs
fits_lack m I [] [] low l h = All-nil (Lacks m)
fits_lack m I [] (x ∷ xs) low l h = absurd h
fits_lack m I (k ∷ ks) [] low l h = absurd h
fits_lack m I (k ∷ ks) (x ∷ xs) low l h = All-cons (Lacks m) x xs (field_lacks m I k x low l h.0) (fits_lack m I ks xs low l h.1)

fields_fit : (I : Draft) (o : Options) (k : ℕ) (e : Entry) (bytes : List ℕ) → IsLineOf I o k e bytes → Fits I (kinds o) (fields o k e)
unfolding fields
fields_fit I o k e bytes line = by_retries o.retries
  where
    count : (n : ℕ) → n < 2 ^ 32 → IsField I count_kind (decimal n)
    count n small = (n, small, refl)

    back : Fits I (count_kind ∷ move_kind ∷ price_kind ∷ verdict_kind ∷ []) (decimal e.seen ∷ move_text e.mv ∷ price_text e.price ∷ verdict_text e.verdict ∷ [])
    back = (count e.seen line.entry.seen, ((e.mv, line.entry.move, refl), ((e.price, line.entry.price, refl), ((e.verdict, line.entry.verdict, refl), tt))))

    by_retries : (r : ℕ) → Fits I (count_kind ∷ count_kind ∷ count_kind ∷ again_kind r ++ count_kind ∷ move_kind ∷ price_kind ∷ verdict_kind ∷ [])
        (decimal k ∷ decimal e.worker ∷ decimal e.number ∷ again_field r e.again ++ decimal e.seen ∷ move_text e.mv ∷ price_text e.price ∷ verdict_text e.verdict ∷ [])
    by_retries zero = (count k line.place, (count e.worker line.entry.worker, (count e.number line.entry.number, back)))
    by_retries (suc r) = (count k line.place, (count e.worker line.entry.worker, (count e.number line.entry.number, (count e.again line.entry.again, back))))

-- the line is parted as its fields
pub line_parted : (I : Draft) (o : Options) (k : ℕ) (e : Entry) (bytes : List ℕ) → IsLimited I → IsLineOf I o k e bytes → parted 32 bytes ≡ fields o k e
line_parted I o k e bytes l line =
    ap (parted 32) line.text ∙ some_fields (fields o k e) (fits_lack 32 I (kinds o) (fields o k e) (omega arith) l fit) (let len = fits_len I (kinds o) (fields o k e) fit in omega (arith, len))
  where
    fit : Fits I (kinds o) (fields o k e)
    fit = fields_fit I o k e bytes line

    some_fields : (xs : List (List ℕ)) → All (Lacks 32) xs → 0 < length xs → parted 32 (join_with_byte 32 xs) ≡ xs
    some_fields [] all some = absurd (omega arith)
    some_fields (x ∷ xs) all some = parted_joined 32 x xs all

-- a line has no line feed
pub line_lacks : (I : Draft) (o : Options) (k : ℕ) (e : Entry) (bytes : List ℕ) → IsLimited I → IsLineOf I o k e bytes → Lacks 10 (line_text o k e)
line_lacks I o k e bytes l line =
    lacks_joined 10 32 (fields o k e) (λ h. omega (arith, h)) (fits_lack 10 I (kinds o) (fields o k e) (omega arith) l (fields_fit I o k e bytes line))

-- a line has no wrong field
pub no_wrong : (I : Draft) (o : Options) (k : ℕ) (e : Entry) (bytes : List ℕ) (f : ℕ) → IsLimited I → IsLineOf I o k e bytes → IsFirstWrong I o bytes f → ⊥
no_wrong I o k e bytes f l line wrong =
    let fit = fields_fit I o k e bytes line in
    let parts = line_parted I o k e bytes l line in
    let same = fits_len I (kinds o) (fields o k e) fit in
    let len = ap length parts in
    let inside : wrong.index < length (kinds o) = elim wrong.field [ inl h ↦ h | inr h ↦ omega (arith, h, len, same) ] in
    let here = fits_here I (kinds o) (fields o k e) wrong.index fit inside in
    wrong.wrong (record { kind = here.kind; field = here.field; wanted = here.wanted; there = rw parts here.there; fits = here.fits })

-- ---- two lines with one text are one entry at one place

same_entry : (e d : Entry) → e.worker ≡ d.worker → e.number ≡ d.number → e.again ≡ d.again → e.seen ≡ d.seen → e.mv ≡ d.mv → e.price ≡ d.price → e.verdict ≡ d.verdict → e ≡ d
same_entry e d worker number again seen mv price verdict = all worker number again seen mv price verdict
  where
    all : {a a' b b' c c' s s' : ℕ} {m m' : Move} {p p' : Bill} {v v' : Verdict} → a ≡ a' → b ≡ b' → c ≡ c' → s ≡ s' → m ≡ m' → p ≡ p' → v ≡ v'
        → entry a b c s m p v ≡ entry a' b' c' s' m' p' v'
    all ea eb ec es em ep ev = rw (ea, eb, ec, es, em, ep, ev) refl

number_same : (m n : ℕ) → m < 2 ^ 32 → n < 2 ^ 32 → decimal m ≡ decimal n → m ≡ n
number_same m n small other h = decimal_injective m n (omega arith) (omega arith) h

pub lines_differ : (I : Draft) (o : Options) (k j : ℕ) (e d : Entry) (bytes : List ℕ) → IsLimited I → IsLineOf I o k e bytes → IsLineOf I o j d bytes → (k ≡ j) × (e ≡ d)
unfolding fields
lines_differ I o k j e d bytes l a b = by_retries o.retries a.entry.once b.entry.once (sym (line_parted I o k e bytes l a) ∙ line_parted I o j d bytes l b)
  where
    behind : e.again ≡ d.again → k ≡ j → e.worker ≡ d.worker → e.number ≡ d.number
        → decimal e.seen ∷ move_text e.mv ∷ price_text e.price ∷ verdict_text e.verdict ∷ [] ≡ decimal d.seen ∷ move_text d.mv ∷ price_text d.price ∷ verdict_text d.verdict ∷ []
        → (k ≡ j) × (e ≡ d)
    behind again place worker number h =
        let seen = number_same e.seen d.seen a.entry.seen b.entry.seen (head_of h) in
        let mv = moves_differ e.mv d.mv (move_short I e.mv l a.entry.move) (move_short I d.mv l b.entry.move) (head_of (tail_of h)) in
        let price = prices_differ e.price d.price a.entry.price b.entry.price (head_of (tail_of (tail_of h))) in
        let verdict = verdicts_differ I e.verdict d.verdict l a.entry.verdict b.entry.verdict (head_of (tail_of (tail_of (tail_of h)))) in
        (place, same_entry e d worker number again seen mv price verdict)

    by_retries : (r : ℕ) → (r ≡ 0 → e.again ≡ 0) → (r ≡ 0 → d.again ≡ 0)
        → decimal k ∷ decimal e.worker ∷ decimal e.number ∷ again_field r e.again ++ decimal e.seen ∷ move_text e.mv ∷ price_text e.price ∷ verdict_text e.verdict ∷ []
        ≡ decimal j ∷ decimal d.worker ∷ decimal d.number ∷ again_field r d.again ++ decimal d.seen ∷ move_text d.mv ∷ price_text d.price ∷ verdict_text d.verdict ∷ []
        → (k ≡ j) × (e ≡ d)
    by_retries zero once_e once_d h =
        let place = number_same k j a.place b.place (head_of h) in
        let worker = number_same e.worker d.worker a.entry.worker b.entry.worker (head_of (tail_of h)) in
        let number = number_same e.number d.number a.entry.number b.entry.number (head_of (tail_of (tail_of h))) in
        behind (once_e refl ∙ sym (once_d refl)) place worker number (tail_of (tail_of (tail_of h)))
    by_retries (suc r) once_e once_d h =
        let place = number_same k j a.place b.place (head_of h) in
        let worker = number_same e.worker d.worker a.entry.worker b.entry.worker (head_of (tail_of h)) in
        let number = number_same e.number d.number a.entry.number b.entry.number (head_of (tail_of (tail_of h))) in
        let again = number_same e.again d.again a.entry.again b.entry.again (head_of (tail_of (tail_of (tail_of h)))) in
        behind again place worker number (tail_of (tail_of (tail_of (tail_of h))))

-- what is read of a line is its entry
pub only_line : (I : Draft) (o : Options) (bytes : List ℕ) (r : Result (ℕ × Entry) BadLine) → IsLimited I → IfOk r (λ x. IsLineOf I o x.0 x.1 bytes)
    → IfErr r (λ b. IsFirstWrong I o bytes b.field) → (k : ℕ) (e : Entry) → IsLineOf I o k e bytes → r ≡ Ok (k, e)
only_line I o bytes (Ok x) l ok err k e line =
    let same = lines_differ I o x.0 k x.1 e bytes l ok line in
    ap Ok (pair x.0 k x.1 e same.0 same.1)
  where
    pair : (a b : ℕ) (c d : Entry) → a ≡ b → c ≡ d → ◌≡◌ {A = ℕ × Entry} (a, c) (b, d)
    pair a b c d p q = rw (p, q) refl
only_line I o bytes (Err b) l ok err k e line = absurd (no_wrong I o k e bytes b.field l line err)
