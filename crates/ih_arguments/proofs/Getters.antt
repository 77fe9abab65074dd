-- What the getters of clap's matches read, by the rows of the matches.
use Rattle.std.proofs.Common.{◌≡◌, ◌∙◌, ◌<◌, ◌^◌, ap, sym, ℕ, Bool, true, false, List, [], refl, arith, Option, Some, None, Result, Ok, Err, option_map, codes}
use Rattle.std.specs.Prelude.{◌≤◌, IfSome, IsSome, unwrap_or}
use Rattle.std.specs.Borrow.{Bor}
use Rattle.std.specs.Option.{option_map_or}
use Rattle.std.specs.Str.{bytes_eq}
use Rattle.std.specs.Str.Parse.{ExplainsUnsignedError, HasUnsignedDigitsIfOk, ParsesBool, ParsesUnsigned, digits_value, without_leading_plus}
use Rattle.std.proofs.lemmas.Slice.Eq.{bytes_eq-Decides}
use Rattle.clap.specs.Words.{Row, Text, IsUnsignedIn, first_of, first_value, one_of, one_text, rows_of}
use Rattle.clap.specs.Matches.{ReadsOne}
use Rattle.clap.specs.declared.parser.matches.Found.{Found}
use Rattle.clap.proofs.WalkLemmas.{first_value-rows, one_text-rows}
use Rattle.ih_arguments.specs.Matches.{HasNumber, IsNumberIfGiven, flag_at, number_at, number_if_given, number_of, text_at}

-- a text that may be left out, and is empty then
pub text_or : (o : Option (Bor Text)) (d : Bor Text) (w : Option Text) → option_map (λ s. s.now) o ≡ w → d.now ≡ [] → (unwrap_or o d).now ≡ unwrap_or w []
text_or None d w is empty = empty ∙ ap (λ (x : Option Text). unwrap_or x []) is
text_or (Some s) d w is empty = ap (λ (x : Option Text). unwrap_or x []) is

-- the number that a text in the range is read as
reads_number : (E : Type 0) (G : List ℕ → Result ℕ E → Type 0) (k low high : ℕ) (t : Text) (o : Option ℕ) → IsUnsignedIn low high t → high < 2 ^ k
    → ((u : List ℕ) (x : Result ℕ E) → G u x → ParsesUnsigned k 10 u x) → ReadsOne G t o
    → o ≡ Some (number_of t)
reads_number E G k low high t None passed fits only read =
    let small : digits_value 10 (without_leading_plus t) < 2 ^ k = omega (arith, passed.3) in
    absurd (only t (Err read.0) read.1 (passed.0, small))
reads_number E G k low high t (Some v) passed fits only read = ap Some ((only t (Ok v) read).1)

-- the number that `get_one` gives
pub number_read : (E : Type 0) (G : List ℕ → Result ℕ E → Type 0) (k low high : ℕ) (f : Found) (id t : Text) (o : Option ℕ)
    → one_of id (rows_of f) ≡ Some t → IsUnsignedIn low high t → high < 2 ^ k
    → ((u : List ℕ) (x : Result ℕ E) → G u x → ParsesUnsigned k 10 u x)
    → ((u : List ℕ) → one_text f id ≡ Some u → ReadsOne G u o)
    → o ≡ Some (number_at id (rows_of f))
number_read E G k low high f id t o found passed fits only read =
    reads_number E G k low high t o passed fits only (read t (one_text-rows f id ∙ found))
    ∙ ap (λ w. Some (option_map_or number_of w 0)) (sym found)

-- the same of a number of at most k bits, which is there
pub unsigned_read : (k high : ℕ) (f : Found) (id : Text) (o : Option ℕ) → HasNumber 0 high id (rows_of f) → high < 2 ^ k
    → ((u : List ℕ) → one_text f id ≡ Some u
    → ReadsOne (λ bs r. ParsesUnsigned k 10 bs r × ExplainsUnsignedError 10 bs r × HasUnsignedDigitsIfOk bs r) u o)
    → IsSome o × ((n : ℕ) → o ≡ Some n → n ≡ number_at id (rows_of f))
unsigned_read k high f id o has fits read =
    let is : o ≡ Some (number_at id (rows_of f)) =
    number_read _ (λ bs r. ParsesUnsigned k 10 bs r × ExplainsUnsignedError 10 bs r × HasUnsignedDigitsIfOk bs r) k 0 high f id
    has.0 o has.1 has.2 fits (λ u x g. g.0) read in
    (rw is refl, λ n some. ap (λ w. unwrap_or w 0) (sym some ∙ is))

-- the number that `get_one` gives of an argument that may be left out
pub number_if_read : (E : Type 0) (G : List ℕ → Result ℕ E → Type 0) (k low high : ℕ) (f : Found) (id : Text) (o : Option ℕ)
    → IsNumberIfGiven low high id (rows_of f) → high < 2 ^ k
    → ((u : List ℕ) (x : Result ℕ E) → G u x → ParsesUnsigned k 10 u x)
    → (one_text f id ≡ None → o ≡ None) → ((u : List ℕ) → one_text f id ≡ Some u → ReadsOne G u o)
    → o ≡ number_if_given id (rows_of f)
number_if_read E G k low high f id o given fits only none value = go (one_of id (rows_of f)) refl
  where
    go : (w : Option Text) → one_of id (rows_of f) ≡ w → o ≡ option_map number_of w
    go None is = none (one_text-rows f id ∙ is)
    go (Some t) is = reads_number E G k low high t o (given t is) fits only (value t (one_text-rows f id ∙ is))

-- the same of the number, which is 0 where none was given
pub optional_number_read : (E : Type 0) (G : List ℕ → Result ℕ E → Type 0) (k low high : ℕ) (f : Found) (id : Text) (o : Option ℕ)
    → IsNumberIfGiven low high id (rows_of f) → high < 2 ^ k
    → ((u : List ℕ) (x : Result ℕ E) → G u x → ParsesUnsigned k 10 u x)
    → (one_text f id ≡ None → o ≡ None) → ((u : List ℕ) → one_text f id ≡ Some u → ReadsOne G u o)
    → unwrap_or o 0 ≡ number_at id (rows_of f)
optional_number_read E G k low high f id o given fits only none value =
    ap (λ w. unwrap_or w 0) (number_if_read E G k low high f id o given fits only none value) ∙ or_zero (one_of id (rows_of f))
  where
    or_zero : (w : Option Text) → unwrap_or (option_map number_of w) 0 ≡ option_map_or number_of w 0
    or_zero None = refl
    or_zero (Some t) = refl

-- the number of an argument, where one was given, is in its range
pub number_if_given-within : (low high : ℕ) (id : Text) (rows : List Row) → IsNumberIfGiven low high id rows
    → IfSome (number_if_given id rows) (λ n. (low ≤ n) × (n ≤ high))
number_if_given-within low high id rows given = go (one_of id rows) refl
  where
    go : (w : Option Text) → one_of id rows ≡ w → IfSome (option_map number_of w) (λ n. (low ≤ n) × (n ≤ high))
    go None is = tt
    go (Some t) is = let h = given t is in (h.2, h.3)

-- a text that `bool` reads as true, or doesn't
flag_is : (E : Type 0) (t : Text) (o : Option Bool) → ReadsOne {T = Bool} {E = E} ParsesBool t o → unwrap_or o false ≡ bytes_eq t (codes "true")
flag_is E t (Some true) read = sym ((bytes_eq-Decides t (codes "true")).1 read)
flag_is E t (Some false) read = sym (rw read refl)
flag_is E t None read = go (bytes_eq t (codes "true")) refl
  where
    go : (b : Bool) → bytes_eq t (codes "true") ≡ b → false ≡ b
    go true is = absurd (read.1.0 ((bytes_eq-Decides t (codes "true")).0 is))
    go false is = refl

-- whether a flag was given, by `get_one`
pub flag_read : (E : Type 0) (f : Found) (id : Text) (o : Option Bool) → (one_text f id ≡ None → o ≡ None)
    → ((u : List ℕ) → one_text f id ≡ Some u → ReadsOne {T = Bool} {E = E} ParsesBool u o)
    → unwrap_or o false ≡ flag_at id (rows_of f)
flag_read E f id o none value = go (one_of id (rows_of f)) refl
  where
    go : (w : Option Text) → one_of id (rows_of f) ≡ w → unwrap_or o false ≡ option_map_or (λ t. bytes_eq t (codes "true")) w false
    go None is = ap (λ x. unwrap_or x false) (none (one_text-rows f id ∙ is))
    go (Some t) is = flag_is E t o (value t (one_text-rows f id ∙ is))
