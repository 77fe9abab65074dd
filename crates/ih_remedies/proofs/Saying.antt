-- What is said, by what the bytes are found to be.
use Rattle.std.proofs.Common.{◌≡◌, ◌≤◌, ℕ, Bool, true, false, List, length, refl, sym, subst}
use Rattle.std.specs.Prelude.{Option, Some, None, IsUtf8, if◌then◌else◌}
use Rattle.std.specs.Str.{is_utf8}
use Rattle.std.proofs.lemmas.Str.{IsUtf8-from_is_utf8, is_utf8-from_IsUtf8}
use Rattle.serde_json.specs.Data.{Data}
use Rattle.serde_json.specs.Read.{read}
use Rattle.ih_tables.specs.declared.refusals.Refusal.{Refusal}
use Rattle.ih_format.specs.Documents.{value_of}
use Rattle.ih_remedies.specs.Broken.{IsSaidOfBytes, IsSaidOfSaved, IsSaidOfText, stopped_text, unread_text}
use Rattle.ih_remedies.specs.Remedies.{IsSaid}
use Rattle.ih_remedies.specs.Sentences.{sentence}

-- ---- which value the bytes are

pub is_a_value : (bytes : List ℕ) (d : Data) → IsUtf8 bytes → read bytes ≡ Some d → value_of bytes ≡ Some d
is_a_value bytes d utf8 e = rw (is_utf8-from_IsUtf8 bytes utf8, e) refl

none : (b : Bool) (o : Option Data) → (b ≡ true → o ≡ None) → (if b then o else None) ≡ None
none true o h = h refl
none false o h = refl

pub is_no_value : (bytes : List ℕ) → (IsUtf8 bytes → read bytes ≡ None) → value_of bytes ≡ None
is_no_value bytes h = none (is_utf8 bytes) (read bytes) (λ e. h (IsUtf8-from_is_utf8 bytes e))

-- ---- what is said

pub json_is_said : (bytes : List ℕ) (o : Option Data) (d : Data) (refusal : Refusal) (said : List ℕ)
    → o ≡ Some d → said ≡ sentence refusal.fault refusal.at d → IsSaid bytes o refusal said
json_is_said bytes o d refusal said e h = subst (λ (x : Option Data). IsSaid bytes x refusal said) (sym e) h

pub bytes_are_said : (bytes : List ℕ) (o : Option Data) (refusal : Refusal) (said : List ℕ)
    → o ≡ None → IsSaidOfBytes bytes said → IsSaid bytes o refusal said
bytes_are_said bytes o refusal said e h = subst (λ (x : Option Data). IsSaid bytes x refusal said) (sym e) h

-- ---- of bytes

pub saved_is_said : (bytes : List ℕ) (o : Option (List ℕ)) (text said : List ℕ) → o ≡ Some text → said ≡ text
    → IsSaidOfSaved bytes o said
saved_is_said bytes o text said e h = subst (λ (x : Option (List ℕ)). IsSaidOfSaved bytes x said) (sym e) h

text_is_said : (bytes : List ℕ) (o : Option (List ℕ)) (b : Bool) (said : List ℕ) → o ≡ None → is_utf8 bytes ≡ b
    → IsSaidOfText bytes b said → IsSaidOfSaved bytes o said
text_is_said bytes o b said e u h =
    subst (λ (x : Option (List ℕ)). IsSaidOfSaved bytes x said) (sym e)
    (subst (λ (y : Bool). IsSaidOfText bytes y said) (sym u) h)

pub stopped_is_said : (bytes : List ℕ) (o : Option (List ℕ)) (n : ℕ) (said : List ℕ) → o ≡ None → IsUtf8 bytes
    → n ≤ length bytes → said ≡ stopped_text bytes n → IsSaidOfSaved bytes o said
stopped_is_said bytes o n said e u le h =
    text_is_said bytes o true said e (is_utf8-from_IsUtf8 bytes u) (n, le, h)

not_true : (b : Bool) → ¬ (b ≡ true) → b ≡ false
not_true true wrong = absurd (wrong refl)
not_true false wrong = refl

pub unread_is_said : (bytes : List ℕ) (o : Option (List ℕ)) (said : List ℕ) → o ≡ None → ¬ (IsUtf8 bytes)
    → said ≡ unread_text bytes → IsSaidOfSaved bytes o said
unread_is_said bytes o said e wrong h =
    text_is_said bytes o false said e (not_true (is_utf8 bytes) (λ t. wrong (IsUtf8-from_is_utf8 bytes t))) h

pub ruleset values = (is_a_value, is_no_value)

pub ruleset saying = (json_is_said, bytes_are_said)

pub ruleset bytes_saying = (saved_is_said, stopped_is_said, unread_is_said)
