-- Whom or what a place in a refused file is about.
use Rattle.std.specs.Prelude.{ℕ, ◌+◌, List, [], ◌++◌, codes, decimal, Option, Some, None, is_some, option_and_then, if◌then◌else◌}
use Rattle.serde_json.specs.Data.{Data}
use Rattle.serde_json.specs.Find.{at, as_str}
use Rattle.ih_tables.specs.declared.refusals.Key.{Key}
use Rattle.ih_tables.specs.declared.refusals.Key.TheVariants.{Surgeons, OperatingTheaters, Rooms, Nurses, Occupants, Patients, Id}
use Rattle.ih_tables.specs.declared.refusals.Place.{Place}
use Rattle.ih_tables.specs.declared.refusals.Step.{Step}
use Rattle.ih_tables.specs.Places.{key_name}
use Rattle.ih_remedies.specs.Values.{shown, under_key}

-- ---- keys and numbers

-- the key of the value at a place, or of the list that it is an item of
abbrev pub last_key : Option Key → Option Step → Option Step → Option Key
last_key section first (Some s) = Some s.key
last_key section (Some s) None = Some s.key
last_key section None None = section

abbrev pub key_at : Place → Option Key
key_at p = last_key p.section p.first p.second

unfoldable pub key_text : Option Key → List ℕ
key_text None = codes "the whole"
key_text (Some k) = codes "\"" ++ (key_name k ++ codes "\"")

-- an item of a list, counted from 1
unfoldable pub number_text : ℕ → List ℕ
number_text i = codes "number " ++ decimal (i + 1)

unfoldable pub item_text : ℕ → Option Key → List ℕ
item_text i k = number_text i ++ (codes " of " ++ key_text k)

-- the value at a place, by its key
abbrev pub thing_of : Option ℕ → Option Key → List ℕ
thing_of None k = key_text k
thing_of (Some i) k = item_text i k

abbrev pub thing : Place → List ℕ
thing p = thing_of p.last (key_at p)

-- ---- persons and things

-- what an item of a section is called
abbrev pub kind_name : Key → List ℕ
kind_name Surgeons = codes "surgeon"
kind_name OperatingTheaters = codes "operating theater"
kind_name Rooms = codes "room"
kind_name Nurses = codes "nurse"
kind_name Occupants = codes "occupant"
kind_name Patients = codes "patient"
kind_name _ = codes "item"

-- the id of an item, where it is a text
abbrev pub text_only : Data → Option Data
text_only d = if is_some (as_str d) then Some d else None

abbrev pub id_of : Data → Option Data
id_of d = option_and_then text_only (under_key Id d)

-- an item, by its id, or by its number where it has none
abbrev pub name_or_number : ℕ → Option Data → List ℕ
name_or_number i None = number_text i
name_or_number i (Some id) = shown id

unfoldable pub item_name : ℕ → Option Data → List ℕ
item_name i item = name_or_number i (option_and_then id_of item)

-- the section's item of this number, or the section where there is no number
unfoldable pub section_owner : Key → Option ℕ → Data → List ℕ
section_owner k None d = key_text (Some k)
section_owner k (Some i) d =
    kind_name k ++ (codes " " ++ item_name i (option_and_then (at i) (under_key k d)))

abbrev pub owner_of : Option Key → Option Step → Data → List ℕ
owner_of (Some k) (Some s) d = section_owner k s.at d
owner_of _ _ d = codes "the file"

-- which item of a list of the owner
abbrev pub row_of : Key → Option ℕ → List ℕ
row_of k None = []
row_of k (Some i) = codes ", " ++ item_text i (Some k)

abbrev pub part_of : Option Step → Option Step → List ℕ
part_of (Some s) (Some t) = row_of s.key t.at
part_of _ _ = []

-- whom or what a place is about: `patient "P03"`, or `nurse "N1", number 2 of "working_shifts"`
unfoldable pub owner : Place → Data → List ℕ
owner p d = owner_of p.section p.first d ++ part_of p.first p.second
