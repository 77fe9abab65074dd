-- The values of a refused file: where they stand, and how a person is shown them.
use Rattle.std.specs.Prelude.{ℕ, List, codes, Option, Some, None, is_some, option_and_then, option_map, unwrap_or, false, if◌then◌else◌}
use Rattle.std.specs.Fmt.Cut.{cut_to}
use Rattle.serde_json.specs.Data.{Data}
use Rattle.serde_json.specs.Find.{get, at, as_array, as_number, as_object, is_float}
use Rattle.serde_json.specs.Written.{compact_text}
use Rattle.ih_tables.specs.declared.refusals.Key.{Key}
use Rattle.ih_tables.specs.declared.refusals.Place.{Place}
use Rattle.ih_tables.specs.declared.refusals.Step.{Step}
use Rattle.ih_tables.specs.Places.{key_name}

-- ---- where they stand

-- the value itself, or the item of it where a number is given
abbrev pub item_at : Option ℕ → Data → Option Data
item_at None d = Some d
item_at (Some i) d = at i d

abbrev pub under_key : Key → Data → Option Data
under_key k d = get (key_name k) d

abbrev pub under_section : Option Key → Data → Option Data
under_section None d = Some d
under_section (Some k) d = under_key k d

abbrev pub under_step : Option Step → Data → Option Data
under_step None d = Some d
under_step (Some s) d = option_and_then (under_key s.key) (item_at s.at d)

-- the value at a place
unfoldable pub found : Place → Data → Option Data
found p d =
    option_and_then (item_at p.last) (option_and_then (under_step p.second)
    (option_and_then (under_step p.first) (under_section p.section d)))

-- ---- how they are shown

-- a text, a number, a truth value or null as JSON, of 60 bytes at most
unfoldable pub shown : Data → List ℕ
shown d =
    if is_some (as_array d) then codes "a list"
    else if is_some (as_object d) then codes "an object"
    else if unwrap_or (option_map is_float (as_number d)) false then codes "a number with a point or an exponent, or too large"
    else cut_to 60 (compact_text d)

abbrev pub value_text : Option Data → List ℕ
value_text None = codes "nothing"
value_text (Some d) = shown d
