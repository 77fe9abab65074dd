-- What is said of bytes that are no JSON.
use Rattle.std.specs.Prelude.{◌≡◌, ◌≤◌, ℕ, ◌+◌, ◌==◌, ◌&&◌, ◌||◌, Bool, true, false, List, [], ◌∷◌, ◌++◌, codes, decimal, drop, fold, length, take, slice_get, Option, Some, None, if◌then◌else◌}
use Rattle.std.specs.Char.{is_ascii_alphabetic, is_ascii_digit}
use Rattle.std.specs.Fmt.{is_char_start}
use Rattle.std.specs.List.{list_any, range_with_len, starts_with}
use Rattle.std.specs.Option.{option_map_or}
use Rattle.std.specs.Str.{is_utf8}
use Rattle.std.specs.Str.Lossy.{utf8_valid_len}

-- ---- how the file was saved

abbrev pub begins_with : List ℕ → List ℕ → Bool
begins_with bytes mark = starts_with ◌==◌ bytes mark

abbrev pub is_utf16 : List ℕ → Bool
is_utf16 bytes = begins_with bytes (255 ∷ 254 ∷ []) || begins_with bytes (254 ∷ 255 ∷ [])

-- what the first bytes show of it
unfoldable pub saved_text : List ℕ → Option (List ℕ)
saved_text bytes =
    if begins_with bytes (239 ∷ 187 ∷ 191 ∷ [])
    then Some (codes "the file begins with a byte order mark: save it as UTF-8 without one")
    else if is_utf16 bytes then Some (codes "the file is UTF-16: save it as UTF-8")
    else None

-- ---- places

-- the line that follows these bytes, counted from 1
abbrev pub next_line : ℕ → ℕ → ℕ
next_line line b = if b == 10 then line + 1 else line

unfoldable pub line_after : List ℕ → ℕ
line_after front = fold next_line 1 front

-- the column of the character that follows these bytes, counted from 1
abbrev pub next_column : ℕ → ℕ → ℕ
next_column column b = if b == 10 then 1 else if is_char_start b then column + 1 else column

unfoldable pub column_after : List ℕ → ℕ
column_after front = fold next_column 1 front

-- the place of byte n
unfoldable pub place_text : List ℕ → ℕ → List ℕ
place_text bytes n =
    codes "line " ++ (decimal (line_after (take n bytes))
    ++ (codes ", column " ++ (decimal (column_after (take n bytes)) ++ codes ": ")))

-- ---- what is wrong there

abbrev pub is_blank : ℕ → Bool
is_blank b = (b == 32) || (b == 10) || (b == 13) || (b == 9)

-- the last of these bytes that is no space
abbrev pub next_solid : Option ℕ → ℕ → Option ℕ
next_solid before b = if is_blank b then before else Some b

unfoldable pub last_solid : List ℕ → Option ℕ
last_solid front = fold next_solid None front

-- a value may begin with this byte: a quote, a bracket, a digit, a minus, or the first letter of true, false or null
abbrev pub begins_value : ℕ → Bool
begins_value b =
    (b == 34) || (b == 123) || (b == 91) || is_ascii_digit b || (b == 45) || (b == 116) || (b == 102) || (b == 110)

-- and end with this one: a quote, a bracket, a digit, or the last letter of true, false or null
abbrev pub ends_value : ℕ → Bool
ends_value b = (b == 34) || (b == 125) || (b == 93) || is_ascii_digit b || (b == 101) || (b == 108)

abbrev pub closes : ℕ → Bool
closes b = (b == 125) || (b == 93)

-- a comma stands before a closing bracket
abbrev pub has_comma_too_many : Option ℕ → ℕ → Bool
has_comma_too_many before here = closes here && option_map_or (λ b. b == 44) before false

-- a value begins right behind another one
abbrev pub lacks_comma : Option ℕ → ℕ → Bool
lacks_comma before here = begins_value here && option_map_or ends_value before false

-- true, false or null begins with this letter, small or not
abbrev pub is_of_word : ℕ → Bool
is_of_word b = (b == 116) || (b == 102) || (b == 110) || (b == 84) || (b == 70) || (b == 78)

-- a text ends there
abbrev pub follows_text : Option ℕ → Bool
follows_text before = option_map_or (λ b. b == 34) before false

-- a list or an object ends there
abbrev pub follows_bracket : Option ℕ → Bool
follows_bracket before = option_map_or closes before false

-- what is wrong at a byte, by the last one before it that is no space
unfoldable pub reason : Option ℕ → Option ℕ → List ℕ
reason None None = codes "the file is empty"
reason (Some b) None = codes "the file ends too soon: a bracket or a quote before isn't closed"
reason before (Some here) =
    if has_comma_too_many before here then codes "there is a comma too many before this bracket"
    else if closes here then codes "this bracket doesn't belong here"
    else if lacks_comma before here then codes "a comma or a colon is missing before this"
    else if here == 34 then codes "this text has no end in its line, or a backslash too many"
    else if (here == 47) || (here == 35) then codes "JSON has no comments"
    else if is_ascii_digit here || (here == 45) then codes "this number, or what stands right behind it, isn't JSON"
    else if is_of_word here then codes "true, false and null are written in full, with small letters"
    else if follows_text before
    then codes "a text ends right before this: perhaps it lacks its first or last double quote"
    else if follows_bracket before
    then codes "this can't follow a bracket: delete it, or write what is missing between them"
    else if (here == 39) || is_ascii_alphabetic here
    then codes "texts stand between double quotes"
    else codes "what begins here isn't JSON"

-- ---- curly quotes

-- byte i begins a curly quote
abbrev pub is_curly_at : List ℕ → ℕ → Bool
is_curly_at bytes i =
    begins_with (drop i bytes) (226 ∷ 128 ∷ 156 ∷ []) || begins_with (drop i bytes) (226 ∷ 128 ∷ 157 ∷ [])

abbrev pub has_curly : List ℕ → Bool
has_curly bytes = list_any (is_curly_at bytes) (range_with_len 0 (length bytes))

abbrev pub curly_text : List ℕ → List ℕ
curly_text bytes = if has_curly bytes then codes "; the file has curly quotes: use straight ones" else []

-- ---- in all

unfoldable pub unread_text : List ℕ → List ℕ
unread_text bytes =
    place_text bytes (utf8_valid_len bytes) ++ codes "the file isn't UTF-8, perhaps Latin-1: save it as UTF-8"

-- what is said if the reader stopped at byte n
unfoldable pub stopped_text : List ℕ → ℕ → List ℕ
stopped_text bytes n =
    place_text bytes n ++ (reason (last_solid (take n bytes)) (slice_get bytes n) ++ curly_text bytes)

-- Of UTF-8 the place is free: the reader of JSON promises that it refuses a text, and not where.
abbrev pub IsSaidOfText : List ℕ → Bool → List ℕ → Type 0
IsSaidOfText bytes false said = said ≡ unread_text bytes
IsSaidOfText bytes true said = (n : ℕ) × (n ≤ length bytes) × (said ≡ stopped_text bytes n)

abbrev pub IsSaidOfSaved : List ℕ → Option (List ℕ) → List ℕ → Type 0
IsSaidOfSaved bytes (Some text) said = said ≡ text
IsSaidOfSaved bytes None said = IsSaidOfText bytes (is_utf8 bytes) said

abbrev pub IsSaidOfBytes : List ℕ → List ℕ → Type 0
IsSaidOfBytes bytes said = IsSaidOfSaved bytes (saved_text bytes) said
