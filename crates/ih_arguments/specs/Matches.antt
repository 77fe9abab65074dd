-- What `clap` reads of the words of a command, and the values that it gives to the arguments, by their ids.
use Rattle.std.specs.Prelude.{◌≡◌, ℕ, Bool, false, List, [], Option, Some, None, is_some, option_and_then, option_map, slice_get, unwrap_or, codes, if◌then◌else◌}
use Rattle.std.specs.Option.{option_map_or}
use Rattle.std.specs.Str.{bytes_eq}
use Rattle.std.specs.Str.Parse.{digits_value, without_leading_plus}
use Rattle.clap.specs.Walk.{is_empty}
use Rattle.clap.specs.Words.{App, IsUnsignedIn, Row, Text, all_of, fault_of, first_of, matches_of, one_of}

-- `clap` finds no fault in the words, by the description of their command
unfoldable pub has_no_fault : App → List Text → Bool
has_no_fault app words = is_empty (fault_of app words)

-- what the words ask of a command: `clap` finds no fault in them, and the values that its matches give are lawful
abbrev pub call_by : {A : Type 0} → App → (List Row → Option A) → List Text → Option A
call_by app lawful words = if has_no_fault app words then lawful (matches_of app words) else None

-- what words ask for, by what they ask of the command that has their first word for its name
abbrev pub by_first_word : {A : Type 0} → (Text → List Text → Option A) → List Text → Option A
by_first_word asked words = option_and_then (λ name. asked name words) (slice_get words 0)

-- the text of an argument
abbrev pub text_at : Text → List Row → Text
text_at id rows = unwrap_or (first_of id rows) []

-- the texts of an argument, once for each time that it was given
abbrev pub texts_at : Text → List Row → List Text
texts_at id rows = unwrap_or (all_of id rows) []

-- the argument was given
abbrev pub is_given : Text → List Row → Bool
is_given id rows = is_some (first_of id rows)

-- a flag was given
abbrev pub flag_at : Text → List Row → Bool
flag_at id rows = option_map_or (λ t. bytes_eq t (codes "true")) (one_of id rows) false

-- the number that digits are, with or without a plus sign before them
abbrev pub number_of : Text → ℕ
number_of text = digits_value 10 (without_leading_plus text)

-- the number of an argument, and 0 where none was given
abbrev pub number_at : Text → List Row → ℕ
number_at id rows = option_map_or number_of (one_of id rows) 0

-- the number of an argument, where one was given
abbrev pub number_if_given : Text → List Row → Option ℕ
number_if_given id rows = option_map number_of (one_of id rows)

-- the argument has a text
abbrev pub HasText : Text → List Row → Type 0
HasText id rows = (t : Text) × (first_of id rows ≡ Some t)

-- the argument has a number from low to high
abbrev pub HasNumber : ℕ → ℕ → Text → List Row → Type 0
HasNumber low high id rows = (t : Text) × (one_of id rows ≡ Some t) × IsUnsignedIn low high t

-- the number of an argument, where one was given, is from low to high
abbrev pub IsNumberIfGiven : ℕ → ℕ → Text → List Row → Type 0
IsNumberIfGiven low high id rows = (t : Text) → one_of id rows ≡ Some t → IsUnsignedIn low high t
