-- Reading a line field by field.
use Rattle.std.proofs.Common.{◌≡◌, inl, inr, ℕ, zero, suc, ◌+◌, ◌<◌, ◌≤◌, refl, sym, ◌∙◌, ap, arith, List, [], ◌∷◌, ◌++◌, length, drop, Option, Some, None, subst, below_more, add-one}
use Rattle.std.specs.Prelude.{slice_get}
use Rattle.std.proofs.Math.Seq.{drop-append-add}
use Rattle.std.proofs.lemmas.Bool.{lt-ltb, le-ltb}
use Rattle.std.proofs.lemmas.List.{length-append, length-drop, drop-drop}
use Rattle.std.proofs.lemmas.Option.{slice_get_within, slice_get_past}
use Rattle.ih_tables.specs.declared.drafts.Draft.{Draft}
use Rattle.ih_journal.specs.declared.settings.Options.{Options}
use Rattle.ih_journal.specs.Grammar.{parted, FieldKind, count_kind, move_kind, price_kind, verdict_kind, again_kind, kinds, IsField, IsFirstWrong}
use Rattle.ih_journal.specs.Pieces.{IsRead, Reads, left_parted, fields_from}
use Rattle.ih_journal.proofs.Separators.{parted_some}
use Rattle.ih_journal.proofs.Lacking.{parted_text, cut_joined}

-- ---- lists by index

get_here : {A : Type 0} (xs : List A) (i : ℕ) (x : A) (ys : List A) → drop i xs ≡ x ∷ ys → (slice_get xs i ≡ Some x) × (drop (suc i) xs ≡ ys)
get_here [] zero x ys h = absurd (let no : [] ≡ x ∷ ys = h in cc)
get_here [] (suc i) x ys h = absurd (let no : [] ≡ x ∷ ys = h in cc)
get_here (z ∷ zs) zero x ys h = let same : z ∷ zs ≡ x ∷ ys = h in (cc, cc)
get_here (z ∷ zs) (suc i) x ys h = get_here zs i x ys h

-- ---- the kinds of a line

pub kinds_few : (o : Options) → length (kinds o) ≤ 8
kinds_few o = by_retries o.retries
  where
    by_retries : (r : ℕ) → length (count_kind ∷ count_kind ∷ count_kind ∷ again_kind r ++ count_kind ∷ move_kind ∷ price_kind ∷ verdict_kind ∷ []) ≤ 8
    by_retries zero = omega arith
    by_retries (suc r) = omega arith

-- where the fields behind the try stand
pub record IsBehind (r : ℕ) (ks : List FieldKind) : Type 0 where
  pub seen : slice_get ks (3 + length (again_kind r)) ≡ Some count_kind
  pub move : slice_get ks (4 + length (again_kind r)) ≡ Some move_kind
  pub price : slice_get ks (5 + length (again_kind r)) ≡ Some price_kind
  pub verdict : slice_get ks (6 + length (again_kind r)) ≡ Some verdict_kind
  pub all : length ks ≡ 7 + length (again_kind r)

pub kinds_behind : (o : Options) → IsBehind o.retries (kinds o)
kinds_behind o = by_retries o.retries
  where
    by_retries : (r : ℕ) → IsBehind r (count_kind ∷ count_kind ∷ count_kind ∷ again_kind r ++ count_kind ∷ move_kind ∷ price_kind ∷ verdict_kind ∷ [])
    by_retries zero = record { seen = refl; move = refl; price = refl; verdict = refl; all = refl }
    by_retries (suc r) = record { seen = refl; move = refl; price = refl; verdict = refl; all = refl }

-- ---- where the next field begins

pub next_field : (bytes : List ℕ) (at : ℕ) (front : List ℕ) (rest : Option (List ℕ)) → at ≤ length bytes
    → parted 32 (drop at bytes) ≡ front ∷ left_parted 32 rest → fields_from bytes at ≡ front ∷ fields_from bytes (at + length front + 1)
next_field bytes at front None inside h =
    let whole : drop at bytes ≡ front = parted_text 32 (drop at bytes) (front ∷ []) h in
    let len = simp length-drop at (ap length whole) in
    let past : length bytes < at + length front + 1 = omega (arith, len) in
    rw (le-ltb (length bytes) at inside, lt-ltb (length bytes) (at + length front + 1) past) h
next_field bytes at front (Some rest) inside h =
    let whole : drop at bytes ≡ front ++ (32 ∷ rest) = cut_joined 32 (drop at bytes) front rest h in
    let len = simp (length-drop, length-append) at (ap length whole) in
    let within : at + length front + 1 ≤ length bytes = omega (arith, len, inside) in
    let regroup : at + length front + 1 ≡ at + (length front + 1) = omega arith in
    let behind : drop (at + length front + 1) bytes ≡ rest =
    rw (regroup, ← drop-drop (length front + 1) at bytes, whole) (drop-append-add front (32 ∷ rest) 1) in
    rw (le-ltb (length bytes) at inside, le-ltb (length bytes) (at + length front + 1) within, behind) h

-- ---- right and wrong fields

pub right_here : (I : Draft) (o : Options) (bytes : List ℕ) (i at at' : ℕ) (kind : FieldKind) (field : List ℕ) → IsRead I o bytes i at
    → slice_get (kinds o) i ≡ Some kind → fields_from bytes at ≡ field ∷ fields_from bytes at' → IsField I kind field → IsRead I o bytes (i + 1) at'
right_here I o bytes i at at' kind field read wanted next fits =
    let here = get_here (parted 32 bytes) i field (fields_from bytes at') (read.left ∙ next) in
    let short = kinds_few o in
    let within = slice_get_within (kinds o) i kind wanted in
    record {
      right = below_more _ _ read.right (record { kind = kind; field = field; wanted = wanted; there = here.0; fits = fits });
      left = rw (add-one i) here.1;
      few = omega (arith, short, within);
    }

pub one_more : (I : Draft) (o : Options) (bytes : List ℕ) (i at : ℕ) → IsRead I o bytes i at → i ≡ length (kinds o) → at ≤ length bytes
    → IsFirstWrong I o bytes (i + 1)
one_more I o bytes i at read all inside =
    let left : drop i (parted 32 bytes) ≡ parted 32 (drop at bytes) = read.left ∙ rw (le-ltb (length bytes) at inside) refl in
    let more : 0 < length (drop i (parted 32 bytes)) = rw left (parted_some 32 (drop at bytes)) in
    let len = simp length-drop at more in
    let past = slice_get_past (kinds o) i (omega (arith, all)) in
    record {
      index = i;
      number = refl;
      before = read.right;
      wrong = λ r. let no : None ≡ Some r.kind = sym past ∙ r.wanted in cc;
      field = inr (omega (arith, len));
    }

-- a field that is not of its kind
pub wrong_here : (I : Draft) (o : Options) (bytes : List ℕ) (i at at' : ℕ) (kind : FieldKind) (field : List ℕ) → IsRead I o bytes i at
    → slice_get (kinds o) i ≡ Some kind → fields_from bytes at ≡ field ∷ fields_from bytes at' → (IsField I kind field → ⊥) → IsFirstWrong I o bytes (i + 1)
wrong_here I o bytes i at at' kind field read wanted next other =
    let here = get_here (parted 32 bytes) i field (fields_from bytes at') (read.left ∙ next) in
    record {
      index = i;
      number = refl;
      before = read.right;
      wrong = λ r.
          let kinds-are : Some r.kind ≡ Some kind = sym r.wanted ∙ wanted in
          let fields-are : Some r.field ≡ Some field = sym r.there ∙ here.0 in
          let same-kind : r.kind ≡ kind = cc in
          let same-field : r.field ≡ field = cc in
          other (subst (IsField I kind) same-field (subst (λ (k : FieldKind). IsField I k r.field) same-kind r.fits));
      field = inl (slice_get_within (kinds o) i kind wanted);
    }

-- a right field, and the next one
pub reads_on : (I : Draft) (o : Options) (bytes : List ℕ) (i at i' at' : ℕ) (kind : FieldKind) (field text : List ℕ) → IsRead I o bytes i at
    → slice_get (kinds o) i ≡ Some kind → i' ≡ i + 1 → fields_from bytes at ≡ field ∷ fields_from bytes at' → field ≡ text → IsField I kind text
    → Reads I o bytes i at text i' at'
reads_on I o bytes i at i' at' kind field text read wanted index next is fits =
    let here : fields_from bytes at ≡ text ∷ fields_from bytes at' = next ∙ ap (λ (x : List ℕ). x ∷ fields_from bytes at') is in
    record { after = rw index (right_here I o bytes i at at' kind text read wanted here fits); index = index; next = here }
