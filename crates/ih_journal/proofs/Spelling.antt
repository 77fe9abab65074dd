-- Values that are made of a name and numbers, by choices between names.
use Rattle.std.proofs.Common.{◌≡◌, ℕ, ◌<◌, ◌≤◌, ◌^◌, sym, ap, arith, Bool, true, false, cond, List, [], ◌∷◌, map, length, decimal, Option, Some, None, subst, refl, ◌∙◌}
use Rattle.std.specs.Prelude.{IfNone, IfSome, slice_index}
use Rattle.std.specs.Str.{bytes_eq}
use Rattle.std.proofs.lemmas.Fmt.{decimal_injective}
use Rattle.std.proofs.lemmas.Slice.Eq.{bytes_eq-Decides}
use Rattle.ih_journal.specs.Grammar.{parted}
use Rattle.ih_journal.specs.Names.{AreShort, by_name}
use Rattle.ih_journal.specs.Pieces.{IsCut}
use Rattle.ih_journal.proofs.Mapped.{map-injective}
use Rattle.ih_journal.proofs.Lacking.{head_of, parted_same, tail_of}

-- what was made of a name and numbers, if anything, is spelled by them
abbrev pub spelled_by : {A : Type 0} → (List ℕ → List ℕ → A → Type 0) → List ℕ → List ℕ → Option A → Type 0
spelled_by Spells name ns None = Unit {0}
spelled_by Spells name ns (Some m) = Spells name ns m

pub either_way : {A : Type 0} (Spells : List ℕ → List ℕ → A → Type 0) (b : Bool) (name ns : List ℕ) (x y : Option A)
    → (b ≡ true → spelled_by Spells name ns x) → spelled_by Spells name ns y → spelled_by Spells name ns (cond b x y)
either_way Spells true name ns x y here there = here refl
either_way Spells false name ns x y here there = there

-- one choice: the name that is asked for, or what the others give
pub choice : {A : Type 0} (Spells : List ℕ → List ℕ → A → Type 0) (name wanted ns : List ℕ) (m : A) (other : Option A)
    → Spells wanted ns m → spelled_by Spells name ns other → spelled_by Spells name ns (cond (bytes_eq name wanted) (Some m) other)
choice {A} Spells name wanted ns m other here there =
    either_way Spells (bytes_eq name wanted) name ns (Some m) other
    (λ h. let P : List ℕ → Type 0 = λ x. Spells x ns m in subst P (sym ((bytes_eq-Decides name wanted).0 h)) here) there

-- the text and the numbers are those of the value
pub record IsSpelled {A : Type 0} (spell : List ℕ → List ℕ → List ℕ) (text numbers : A → List ℕ) (name ns : List ℕ) (x : A) : Type 0 where
  pub text_is : spell name ns ≡ text x
  pub numbers_are : numbers x ≡ ns

-- each value of a table is spelled by its name and the numbers
abbrev pub AllSpelled : {A : Type 0} → (List ℕ → List ℕ → List ℕ) → (A → List ℕ) → (A → List ℕ) → List ℕ → List (List ℕ × A) → Type 0
AllSpelled spell text numbers ns [] = Unit {0}
AllSpelled spell text numbers ns (e ∷ es) = (spell e.0 ns ≡ text e.1) × (numbers e.1 ≡ ns) × AllSpelled spell text numbers ns es

pub listed : {A : Type 0} (spell : List ℕ → List ℕ → List ℕ) (text numbers : A → List ℕ) (name ns : List ℕ) (es : List (List ℕ × A))
    → AllSpelled spell text numbers ns es → spelled_by (IsSpelled spell text numbers) name ns (by_name name es)
listed spell text numbers name ns [] all = tt
listed spell text numbers name ns (e ∷ es) all =
    choice (IsSpelled spell text numbers) name e.0 ns e.1 (by_name name es) (record { text_is = all.0; numbers_are = all.1 })
    (listed spell text numbers name ns es all.2)

pub along : {A : Type 0} (Spells : List ℕ → List ℕ → A → Type 0) (name ms ns : List ℕ) (x : Option A)
    → ms ≡ ns → spelled_by Spells name ms x → spelled_by Spells name ns x
along Spells name ms ns x same h = let P : List ℕ → Type 0 = λ ks. spelled_by Spells name ks x in subst P same h

-- lists of one to four numbers
pub one : (ns : List ℕ) → length ns ≡ 1 → slice_index ns 0 ∷ [] ≡ ns
one [] h = absurd (omega arith)
one (a ∷ []) h = refl
one (a ∷ b ∷ r) h = absurd (omega arith)

pub two : (ns : List ℕ) → length ns ≡ 2 → slice_index ns 0 ∷ slice_index ns 1 ∷ [] ≡ ns
two [] h = absurd (omega arith)
two (a ∷ []) h = absurd (omega arith)
two (a ∷ b ∷ []) h = refl
two (a ∷ b ∷ c ∷ r) h = absurd (omega arith)

pub three : (ns : List ℕ) → length ns ≡ 3 → slice_index ns 0 ∷ slice_index ns 1 ∷ slice_index ns 2 ∷ [] ≡ ns
three [] h = absurd (omega arith)
three (a ∷ []) h = absurd (omega arith)
three (a ∷ b ∷ []) h = absurd (omega arith)
three (a ∷ b ∷ c ∷ []) h = refl
three (a ∷ b ∷ c ∷ d ∷ r) h = absurd (omega arith)

pub four : (ns : List ℕ) → length ns ≡ 4 → slice_index ns 0 ∷ slice_index ns 1 ∷ slice_index ns 2 ∷ slice_index ns 3 ∷ [] ≡ ns
four [] h = absurd (omega arith)
four (a ∷ []) h = absurd (omega arith)
four (a ∷ b ∷ []) h = absurd (omega arith)
four (a ∷ b ∷ c ∷ []) h = absurd (omega arith)
four (a ∷ b ∷ c ∷ d ∷ []) h = refl
four (a ∷ b ∷ c ∷ d ∷ e ∷ r) h = absurd (omega arith)

pub shorts_injective : (ms ns : List ℕ) → AreShort ms → AreShort ns → map decimal ms ≡ map decimal ns → ms ≡ ns
shorts_injective ms ns a b h =
    map-injective decimal (λ n. n < 2 ^ 32) ms ns (λ m n small other e. decimal_injective m n (omega arith) (omega arith) e) a b h

-- bytes are cut in one way
same_cut : (behind between : ℕ) (bs x ms y ns : List ℕ) → IsCut behind between bs x ms → IsCut behind between bs y ns → (x ≡ y) × (ms ≡ ns)
same_cut behind between bs x ms y ns a b =
    let both = sym a.cut ∙ b.cut in
    let rest = parted_same behind a.rest b.rest (tail_of both) in
    (head_of both, shorts_injective ms ns a.short b.short (sym a.read ∙ ap (parted between) rest ∙ b.read))

-- the bytes are a name and a few numbers, and the value is made of these
pub record IsNamed {A : Type 0} (made_of : List ℕ → List ℕ → Option A) (behind between most : ℕ) (name ns bs : List ℕ) (m : A) : Type 0 where
  pub cut : IsCut behind between bs name ns
  pub few : length ns ≤ most
  pub made : made_of name ns ≡ Some m

-- of whatever the bytes are cut into, the value is made
pub named_made : {A : Type 0} (made_of : List ℕ → List ℕ → Option A) (behind between most : ℕ) (bs x ms y ns : List ℕ) (m : A)
    → IsNamed made_of behind between most x ms bs m → IsCut behind between bs y ns → made_of y ns ≡ Some m
named_made made_of behind between most bs x ms y ns m is cut =
    let same = same_cut behind between bs y ns x ms cut is.cut in
    rw (same.0, same.1) is.made

-- two values with one text are one value
pub same_named : {A : Type 0} (made_of : List ℕ → List ℕ → Option A) (behind between most : ℕ) (bs x ms y ns : List ℕ) (m n : A)
    → IsNamed made_of behind between most x ms bs m → IsNamed made_of behind between most y ns bs n → m ≡ n
same_named made_of behind between most bs x ms y ns m n a b =
    let made : Some m ≡ Some n = sym a.made ∙ named_made made_of behind between most bs y ns x ms n b a.cut in cc

-- what is read of bytes that spell it has them as its text
pub some_where : {A : Type 0} (spell : List ℕ → List ℕ → List ℕ) (text numbers : A → List ℕ) (r : Option A) (bs name ns : List ℕ)
    → bs ≡ spell name ns → AreShort ns → spelled_by (IsSpelled spell text numbers) name ns r → IfSome r (λ x. (bs ≡ text x) × AreShort (numbers x))
some_where spell text numbers None bs name ns is short h = tt
some_where spell text numbers (Some x) bs name ns is short h = (is ∙ h.text_is, rw h.numbers_are short)

-- nothing is there only where nothing may be
pub none_where : {A : Type 0} (r : Option A) (P Q : A → Type 0) → ((m : A) → P m → Q m → r ≡ Some m) → IfNone r ((m : A) → P m → Q m → ⊥)
none_where None P Q each = λ m p q. let no : None ≡ Some m = each m p q in cc
none_where (Some x) P Q each = tt

-- what was read is no other value with its text, and so no value of which P holds
pub no_other : {A : Type 0} (P : A → Type 0) {x y : A} → x ≡ y → (P x → false ≡ true) → P y → ⊥
no_other P same not_x inside = let no : false ≡ true = not_x (subst P (sym same) inside) in cc
