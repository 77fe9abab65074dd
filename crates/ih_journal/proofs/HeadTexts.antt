-- A heading by its fields.
use Rattle.std.proofs.Common.{◌≡◌, ℕ, zero, suc, ◌<◌, ◌^◌, refl, sym, ◌∙◌, ap, arith, true, false, List, [], ◌∷◌, ◌++◌, length, decimal, All, Option, Some, None, ◌≤◌}
use Rattle.std.specs.Prelude.{codes, ◌==◌, is_some, option_map}
use Rattle.std.proofs.lemmas.Fmt.{decimal_injective}
use Rattle.std.proofs.lemmas.List.Elements.{All-nil, All-cons, All-append}
use Rattle.ih_journal.specs.declared.settings.Options.{Options}
use Rattle.ih_journal.specs.Settings.{IsLawful}
use Rattle.ih_journal.specs.Texts.{heading, option_text, options_from, version_text, retries_field}
use Rattle.ih_journal.specs.Grammar.{parted}
use Rattle.ih_journal.specs.Pieces.{AreShortOptions, left_parted}
use Rattle.ih_journal.proofs.Separators.{parted_some}
use Rattle.ih_journal.proofs.Lacking.{Lacks, lacks_decimal, lacks_joined, parted_joined, parted_text, plain, plain_lacks, low_mark, head_of, tail_of, same_tails}
use Rattle.std.proofs.lemmas.Bool.{ne_eqb}

pub option_lacks : (m : ℕ) (name : List ℕ) (n : ℕ) → m ≤ 32 → plain name ≡ true → n < 2 ^ 64 → Lacks m (option_text name n)
option_lacks m name n low known small =
    All-append (λ b. (b == m) ≡ false) name (61 ∷ decimal n) (plain_lacks m name low known)
    (All-cons (λ b. (b == m) ≡ false) 61 (decimal n) (ne_eqb 61 m (λ e. omega (arith, e, low))) (lacks_decimal m n (low_mark m low) small))

version_lacks : (m r : ℕ) → m ≤ 32 → Lacks m (version_text r)
version_lacks m zero low = plain_lacks m (codes "1") low refl
version_lacks m (suc r) low = plain_lacks m (codes "2") low refl

retries_lack : (m r : ℕ) → m ≤ 32 → r < 2 ^ 32 → All (Lacks m) (retries_field r)
retries_lack m zero low small = All-nil (Lacks m)
retries_lack m (suc r) low small =
    All-cons (Lacks m) (option_text (codes "retries") (suc r)) [] (option_lacks m (codes "retries") (suc r) low refl (omega arith)) (All-nil (Lacks m))

seven : (m : ℕ) (a b c d e f g : List ℕ) (rest : List (List ℕ)) → Lacks m a → Lacks m b → Lacks m c → Lacks m d → Lacks m e → Lacks m f → Lacks m g → All (Lacks m) rest
    → All (Lacks m) (a ∷ b ∷ c ∷ d ∷ e ∷ f ∷ g ∷ rest)
seven m a b c d e f g rest la lb lc ld le lf lg lr =
    All-cons (Lacks m) a (b ∷ c ∷ d ∷ e ∷ f ∷ g ∷ rest) la (All-cons (Lacks m) b (c ∷ d ∷ e ∷ f ∷ g ∷ rest) lb
    (All-cons (Lacks m) c (d ∷ e ∷ f ∷ g ∷ rest) lc (All-cons (Lacks m) d (e ∷ f ∷ g ∷ rest) ld (All-cons (Lacks m) e (f ∷ g ∷ rest) le
    (All-cons (Lacks m) f (g ∷ rest) lf (All-cons (Lacks m) g rest lg lr))))))

-- no field of a heading has a space or a line feed
heading_fields_lack : (m : ℕ) (o : Options) → m ≤ 32 → AreShortOptions o → All (Lacks m) (codes "ihjournal" ∷ version_text o.retries ∷ options_from o)
heading_fields_lack m o low short =
    let workers = short.workers in
    let moves = short.moves in
    let heat = short.heat in
    let hard = short.hard in
    seven m (codes "ihjournal") (version_text o.retries) (option_text (codes "seed") o.seed) (option_text (codes "workers") o.workers)
    (option_text (codes "moves") o.moves) (option_text (codes "heat") o.heat) (option_text (codes "hard") o.hard) (retries_field o.retries)
    (plain_lacks m (codes "ihjournal") low refl) (version_lacks m o.retries low) (option_lacks m (codes "seed") o.seed low refl short.seed)
    (option_lacks m (codes "workers") o.workers low refl (omega arith)) (option_lacks m (codes "moves") o.moves low refl (omega arith))
    (option_lacks m (codes "heat") o.heat low refl (omega arith)) (option_lacks m (codes "hard") o.hard low refl (omega arith))
    (retries_lack m o.retries low short.retries)

pub heading_parted : (o : Options) (bytes : List ℕ) → AreShortOptions o → bytes ≡ heading o → parted 32 bytes ≡ codes "ihjournal" ∷ version_text o.retries ∷ options_from o
unfolding heading
heading_parted o bytes short is =
    ap (parted 32) is ∙ parted_joined 32 (codes "ihjournal") (version_text o.retries ∷ options_from o) (heading_fields_lack 32 o (omega arith) short)

pub heading_lacks : (o : Options) → AreShortOptions o → Lacks 10 (heading o)
unfolding heading
heading_lacks o short =
    lacks_joined 10 32 (codes "ihjournal" ∷ version_text o.retries ∷ options_from o) (λ e. omega (arith, e)) (heading_fields_lack 10 o (omega arith) short)

-- fields that were read are those of options
pub options_read : (seed workers moves heat hard retries : ℕ) (r1 r2 r3 r4 r5 r6 : List (List ℕ)) → r1 ≡ (codes "seed=" ++ decimal seed) ∷ r2
    → r2 ≡ (codes "workers=" ++ decimal workers) ∷ r3 → r3 ≡ (codes "moves=" ++ decimal moves) ∷ r4 → r4 ≡ (codes "heat=" ++ decimal heat) ∷ r5
    → r5 ≡ (codes "hard=" ++ decimal hard) ∷ r6 → r6 ≡ retries_field retries
    → r1 ≡ options_from (record { seed = seed; workers = workers; moves = moves; heat = heat; hard = hard; retries = retries })
options_read seed workers moves heat hard retries r1 r2 r3 r4 r5 r6 f1 f2 f3 f4 f5 f6 = rw (f1, f2, f3, f4, f5, f6) refl

-- and with a title and a number those of a heading
pub heading_read : (o : Options) (bytes title version : List ℕ) (r0 r1 : List (List ℕ)) → parted 32 bytes ≡ title ∷ r0 → title ≡ codes "ihjournal"
    → r0 ≡ version ∷ r1 → version ≡ version_text o.retries → r1 ≡ options_from o → bytes ≡ heading o
unfolding heading
heading_read o bytes title version r0 r1 f0 is_title f1 is_version f2 =
    parted_text 32 bytes (codes "ihjournal" ∷ version_text o.retries ∷ options_from o) (f0 ∙ rw (f1, f2, is_title, is_version) refl)

-- lawful options are short
pub lawful_short : (o : Options) → IsLawful o → o.seed < 2 ^ 64 → AreShortOptions o
lawful_short o lawful seed =
    let workers = lawful.workers in
    let moves = lawful.moves in
    let heat = lawful.heat in
    let hard = lawful.hard in
    let retries = lawful.retries in
    record { seed = seed; workers = omega arith; moves = omega arith; heat = omega arith; hard = omega arith; retries = omega arith }

-- ---- two headings with one text are of the same options

behind : (name : List ℕ) (x y : List ℕ) → name ++ x ≡ name ++ y → x ≡ y
behind [] x y h = h
behind (c ∷ name) x y h = behind name x y (tail_of h)

pub option_same : (name : List ℕ) (m n : ℕ) → m < 2 ^ 64 → n < 2 ^ 64 → option_text name m ≡ option_text name n → m ≡ n
option_same name m n small other h = decimal_injective m n small other (tail_of (behind name (61 ∷ decimal m) (61 ∷ decimal n) h))

retries_same : (r s : ℕ) → r < 2 ^ 32 → s < 2 ^ 32 → retries_field r ≡ retries_field s → r ≡ s
retries_same zero zero small other h = refl
retries_same zero (suc s) small other h = absurd (let no : [] ≡ option_text (codes "retries") (suc s) ∷ [] = h in cc)
retries_same (suc r) zero small other h = absurd (let no : option_text (codes "retries") (suc r) ∷ [] ≡ [] = h in cc)
retries_same (suc r) (suc s) small other h = option_same (codes "retries") (suc r) (suc s) (omega arith) (omega arith) (head_of h)

options_made : ℕ → ℕ → ℕ → ℕ → ℕ → ℕ → Options
options_made seed workers moves heat hard retries = record { seed = seed; workers = workers; moves = moves; heat = heat; hard = hard; retries = retries }

same_options : (o p : Options) → o.seed ≡ p.seed → o.workers ≡ p.workers → o.moves ≡ p.moves → o.heat ≡ p.heat → o.hard ≡ p.hard → o.retries ≡ p.retries → o ≡ p
unfolding options_made
same_options o p seed workers moves heat hard retries = all seed workers moves heat hard retries
  where
    all : {a a' b b' c c' d d' e e' f f' : ℕ} → a ≡ a' → b ≡ b' → c ≡ c' → d ≡ d' → e ≡ e' → f ≡ f' → options_made a b c d e f ≡ options_made a' b' c' d' e' f'
    all ea eb ec ed ee ef = rw (ea, eb, ec, ed, ee, ef) refl

pub options_differ : (o p : Options) → AreShortOptions o → AreShortOptions p → options_from o ≡ options_from p → o ≡ p
options_differ o p a b seed =
    let workers = tail_of seed in
    let moves = tail_of workers in
    let heat = tail_of moves in
    let hard = tail_of heat in
    same_options o p
    (option_same (codes "seed") o.seed p.seed a.seed b.seed (head_of seed))
    (option_same (codes "workers") o.workers p.workers (let x = a.workers in omega arith) (let x = b.workers in omega arith) (head_of workers))
    (option_same (codes "moves") o.moves p.moves (let x = a.moves in omega arith) (let x = b.moves in omega arith) (head_of moves))
    (option_same (codes "heat") o.heat p.heat (let x = a.heat in omega arith) (let x = b.heat in omega arith) (head_of heat))
    (option_same (codes "hard") o.hard p.hard (let x = a.hard in omega arith) (let x = b.hard in omega arith) (head_of hard))
    (retries_same o.retries p.retries a.retries b.retries (tail_of hard))

pub headings_differ : (o p : Options) → AreShortOptions o → AreShortOptions p → heading o ≡ heading p → o ≡ p
headings_differ o p a b h = options_differ o p a b (tail_of (same_tails (heading_parted o (heading o) a refl) (heading_parted p (heading o) b h)))

-- ---- the last field

pub left_none : (o : Option (List ℕ)) → left_parted 32 o ≡ [] → o ≡ None
left_none None h = refl
left_none (Some rest) h = let some = parted_some 32 rest in let len = ap length h in absurd (omega (arith, some, len))

-- some retries and nothing behind them
pub retries_whole : (r n : ℕ) (rest : Option (List ℕ)) → r < 2 ^ 32 → n < 2 ^ 32 → (codes "retries=" ++ decimal n) ∷ left_parted 32 rest ≡ retries_field r → (0 < n) × (rest ≡ None)
retries_whole zero n rest small other h = absurd (let no : (codes "retries=" ++ decimal n) ∷ left_parted 32 rest ≡ [] = h in cc)
retries_whole (suc r) n rest small other h =
    let same = option_same (codes "retries") n (suc r) (omega arith) (omega arith) (head_of h) in
    (omega (arith, same), left_none rest (tail_of h))

pub retries_next : (r : ℕ) (o : Option (List ℕ)) → is_some o ≡ true → (left_parted 32 o ≡ (codes "retries=" ++ decimal r) ∷ [] → ⊥) → left_parted 32 o ≡ retries_field r → ⊥
retries_next zero o some none h = let no : false ≡ true = sym (ap is_some (left_none o h)) ∙ some in cc
retries_next (suc r) o some none h = none h

pub copied_some : {A B : Type 0} (f : A → B) (o : Option A) → is_some (option_map f o) ≡ is_some o
copied_some f None = refl
copied_some f (Some x) = refl
