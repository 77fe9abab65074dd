-- First words that are a command's name, or none's.
use Rattle.std.proofs.Common.{◌≡◌, ◌∙◌, ap, sym, Bool, true, false, List, map, refl, Option, Some, None, Global, String, option_map, string_bytes}
use Rattle.std.specs.Prelude.{option_and_then, slice_get}
use Rattle.std.specs.Str.{bytes_eq}
use Rattle.std.proofs.lemmas.Option.{slice_get-map}
use Rattle.std.proofs.lemmas.Slice.Eq.{bytes_eq-Decides}
use Rattle.clap.specs.Words.{Text}
use Rattle.ih_arguments.specs.Matches.{by_first_word}

pub other : (s t : Text) → (s ≡ t → ⊥) → bytes_eq s t ≡ false
other s t differs = go (bytes_eq s t) refl
  where
    go : (b : Bool) → bytes_eq s t ≡ b → b ≡ false
    go true is = absurd (differs ((bytes_eq-Decides s t).0 is))
    go false is = refl

pub first_name : (words : List (String Global)) {s : String Global} {name : Text} → slice_get words 0 ≡ Some s → name ≡ string_bytes s
    → slice_get (map string_bytes words) 0 ≡ Some name
first_name words first told = slice_get-map string_bytes words 0 ∙ ap (option_map string_bytes) first ∙ ap Some (sym told)

pub no_first : (words : List (String Global)) → slice_get words 0 ≡ None → slice_get (map string_bytes words) 0 ≡ None
no_first words none = slice_get-map string_bytes words 0 ∙ ap (option_map string_bytes) none

-- words whose first is a name ask for what they ask of the command of that name, and no words ask for nothing
module _ {A : Type 0} (asked : Text → List Text → Option A) (words : List (String Global)) where
  pub by_name : {s : String Global} {name : Text} → slice_get words 0 ≡ Some s → name ≡ string_bytes s
      → by_first_word asked (map string_bytes words) ≡ asked name (map string_bytes words)
  by_name first told = ap (option_and_then (λ name. asked name (map string_bytes words))) (first_name words first told)

  pub no_name : slice_get words 0 ≡ None → by_first_word asked (map string_bytes words) ≡ None
  no_name none = ap (option_and_then (λ name. asked name (map string_bytes words))) (no_first words none)
