-- What is said of a file that is JSON, by its fault.
use Rattle.std.specs.Prelude.{ℕ, ◌==◌, List, [], ◌∷◌, ◌++◌, codes, decimal, flat_map, length, nat_lt, take, Option, Some, None, unwrap_or, if◌then◌else◌}
use Rattle.std.specs.Option.{option_map_or}
use Rattle.serde_json.specs.Data.{Data}
use Rattle.serde_json.specs.Find.{as_array}
use Rattle.ih_tables.specs.declared.refusals.Fault.{Fault}
use Rattle.ih_tables.specs.declared.refusals.Fault.TheVariants as faults
use Rattle.ih_tables.specs.declared.refusals.Key.{Key}
use Rattle.ih_tables.specs.declared.refusals.Key.TheVariants as keys
use Rattle.ih_tables.specs.declared.refusals.Place.{Place}
use Rattle.ih_tables.specs.declared.refusals.Step.{Step}
use Rattle.ih_format.specs.Checks.{list_items}
use Rattle.ih_remedies.specs.Values.{found, shown, under_key, value_text}
use Rattle.ih_remedies.specs.Owners.{key_at, key_text, owner, thing}
use Rattle.ih_remedies.specs.Forms.{count_text, form_at, form_text}

-- ---- what a reference may name

-- the items of a list; of any other value none
abbrev pub items_of : Data → List Data
items_of d = option_map_or list_items (as_array d) []

abbrev pub items_in : Option Data → List Data
items_in d = option_map_or items_of d []

-- a thing that can be named: by its id, or a name itself
abbrev pub label : Data → List ℕ
label d = shown (unwrap_or (under_key keys.Id d) d)

unfoldable pub next_label : Data → List ℕ
next_label d = codes ", " ++ label d

abbrev pub more_text : List Data → List ℕ
more_text ds = if nat_lt 5 (length ds) then codes ", ..." else []

-- the first six that there are
unfoldable pub choices_text : List Data → List ℕ
choices_text [] = codes ": there are none"
choices_text (d ∷ ds) =
    codes ": there are " ++ (label d ++ (flat_map next_label (take 5 ds) ++ more_text ds))

-- what the value of a key is the id of, in which section
abbrev pub group_of : Key → Option Key → List ℕ
group_of keys.RoomId section = codes "rooms"
group_of keys.IncompatibleRoomIds section = codes "rooms"
group_of keys.Room section = codes "rooms"
group_of keys.Rooms section = codes "rooms"
group_of keys.SurgeonId section = codes "surgeons"
group_of keys.AgeGroup section = codes "age groups"
group_of keys.Shift section = codes "shift types"
group_of keys.OperatingTheater section = codes "operating theaters"
group_of keys.Id (Some keys.Nurses) = codes "nurses"
group_of keys.Id _ = codes "patients"
group_of _ section = codes "names"

abbrev pub group_name : Option Key → Option Key → List ℕ
group_name None section = codes "names"
group_name (Some k) section = group_of k section

-- the shift types of the same file, where the reference is that of a worked shift
abbrev pub shifts_under : Key → Option Key
shifts_under keys.WorkingShifts = Some keys.ShiftTypes
shifts_under _ = None

abbrev pub shifts_of : Option Step → Option Key
shifts_of None = None
shifts_of (Some s) = shifts_under s.key

abbrev pub list_by : Key → Option Step → Option Key
list_by keys.RoomId first = Some keys.Rooms
list_by keys.IncompatibleRoomIds first = Some keys.Rooms
list_by keys.SurgeonId first = Some keys.Surgeons
list_by keys.AgeGroup first = Some keys.AgeGroups
list_by keys.Shift first = shifts_of first
list_by _ first = None

-- the list of the same file that has what a key refers to. A solution refers to the instance, which is another file
abbrev pub list_of : Option Key → Option Step → Option Key
list_of None first = None
list_of (Some k) first = list_by k first

unfoldable pub group_text : Option Key → List ℕ → Data → List ℕ
group_text None name d = codes "the ward's " ++ name
group_text (Some k) name d = codes "this file's " ++ (name ++ choices_text (items_in (under_key k d)))

-- ---- the sentences

unfoldable pub missing_text : List ℕ → List ℕ → List ℕ → List ℕ
missing_text whose key form = whose ++ (codes " has no " ++ (key ++ (codes ", which is to be " ++ form)))

unfoldable pub wanted_text : List ℕ → List ℕ → List ℕ → List ℕ → List ℕ
wanted_text whose what value form =
    whose ++ (codes ": " ++ (what ++ (codes " is " ++ (value ++ (codes ", and is to be " ++ form)))))

unfoldable pub items_text : ℕ → List ℕ
items_text count = if count == 1 then codes "1 item" else decimal count ++ codes " items"

unfoldable pub length_text : List ℕ → List ℕ → ℕ → List ℕ → List ℕ
length_text whose what count wanted =
    whose ++ (codes ": " ++ (what ++ (codes " has " ++ (items_text count ++ (codes ", and is to have " ++ wanted)))))

unfoldable pub twice_text : List ℕ → List ℕ → List ℕ → List ℕ
twice_text whose what value = whose ++ (codes ": an earlier one has the same " ++ (what ++ (codes ": " ++ value)))

unfoldable pub same_shift_text : List ℕ → List ℕ → List ℕ
same_shift_text whose what = whose ++ (codes ": " ++ (what ++ codes " is of the same day and shift as an earlier one"))

unfoldable pub unknown_text : List ℕ → List ℕ → List ℕ → List ℕ
unknown_text whose value group = whose ++ (codes ": " ++ (value ++ (codes " is none of " ++ group)))

unfoldable pub two_nurses_text : List ℕ → List ℕ → List ℕ
two_nurses_text whose value = whose ++ (codes ": " ++ (value ++ codes " has a nurse in this shift already"))

unfoldable pub two_weights_text : List ℕ
two_weights_text =
    codes "the file has both \"nurse_eccessive_workload\" and \"nurse_excessive_workload\": keep one of them"

-- a worked shift has no name that could be shown
abbrev pub duplicate_of : Key → List ℕ → List ℕ → List ℕ → List ℕ
duplicate_of keys.WorkingShifts whose what value = same_shift_text whose what
duplicate_of _ whose what value = twice_text whose what value

abbrev pub duplicate_text : Option Key → List ℕ → List ℕ → List ℕ → List ℕ
duplicate_text None whose what value = twice_text whose what value
duplicate_text (Some k) whose what value = duplicate_of k whose what value

-- ---- by the fault

-- what is said of a fault at a place. This file is JSON
unfoldable pub sentence : Fault → Place → Data → List ℕ
sentence faults.NotJson p d = []
sentence faults.Missing p d = missing_text (owner p d) (key_text (key_at p)) (form_text (form_at p))
sentence faults.Kind p d = wanted_text (owner p d) (thing p) (value_text (found p d)) (form_text (form_at p))
sentence faults.Range p d = wanted_text (owner p d) (thing p) (value_text (found p d)) (form_text (form_at p))
sentence faults.Length p d =
    length_text (owner p d) (thing p) (length (items_in (found p d))) (count_text (key_at p))
sentence faults.Duplicate p d = duplicate_text (key_at p) (owner p d) (thing p) (value_text (found p d))
sentence faults.Unknown p d =
    unknown_text (owner p d) (value_text (found p d))
    (group_text (list_of (key_at p) p.first) (group_name (key_at p) p.section) d)
sentence faults.TwoWeights p d = two_weights_text
sentence faults.TwoNurses p d = two_nurses_text (owner p d) (value_text (found p d))
