-- Checks of JSON values, each with its place. The first that fails is the refusal.
use Rattle.std.specs.Prelude.{ℕ, ◌&&◌, Bool, not, nat_le, List, [], ◌∷◌, ◌++◌, length, map, take, Option, Some, None, option_map, option_and_then, is_some, Result, Ok, Err, if◌then◌else◌}
use Rattle.serde_json.specs.Data.{Data, Items, no_items, item}
use Rattle.serde_json.specs.Find.{get, as_bool, as_number, as_u64, as_str, as_array, as_object}
use Rattle.ih_tables.specs.declared.refusals.Refusal.{Refusal}
use Rattle.ih_tables.specs.declared.refusals.Place.{Place}
use Rattle.ih_tables.specs.declared.refusals.Key.{Key}
use Rattle.ih_tables.specs.declared.refusals.Key.TheVariants.{Id}
use Rattle.ih_tables.specs.declared.refusals.Fault.{Fault}
use Rattle.ih_tables.specs.declared.refusals.Fault.TheVariants.{Missing, Kind, Range, Length, Duplicate, Unknown}
use Rattle.ih_tables.specs.Places.{key_name, at_key, at_item}
use Rattle.ih_tables.specs.Lookups.{number_in}

-- what was read, or the first refusal
abbrev pub Checked : Type 0 → Type 0
Checked A = Result A Refusal

-- how a value at a place is read
abbrev pub Check : Type 0 → Type 0
Check A = Place → Data → Checked A

abbrev pub refuse : {A : Type 0} → Fault → Place → Checked A
refuse fault place = Err (record { fault = fault; at = place })

infixl 10 ◌>>=◌
abbrev pub ◌>>=◌ : {A B : Type 0} → Checked A → (A → Checked B) → Checked B
(Ok x) >>= f = f x
(Err e) >>= f = Err e

-- what is there, or else the fault
abbrev pub or_else : {A : Type 0} → Fault → Place → Option A → Checked A
or_else fault p None = refuse fault p
or_else fault p (Some x) = Ok x

-- x where the test holds, or else the fault
abbrev pub where_so : {A : Type 0} → Bool → Fault → Place → A → Checked A
where_so b fault p x = if b then Ok x else refuse fault p

abbrev pub between : ℕ → ℕ → ℕ → Bool
between low high n = nat_le low n && nat_le n high

-- ---- kinds

abbrev pub number : ℕ → ℕ → Check ℕ
number low high p d = or_else Kind p (option_and_then as_u64 (as_number d)) >>= λ n. where_so
    (between low high n) Range p n

abbrev pub text : Check (List ℕ)
text p d = or_else Kind p (as_str d) >>= λ s. where_so (between 1 100 (length s)) Range p s

abbrev pub truth : Check Bool
truth p d = or_else Kind p (as_bool d)

abbrev pub object : Check Data
object p d = where_so (is_some (as_object d)) Kind p d

abbrev pub list_items : Items → List Data
list_items no_items = []
list_items (item d ds) = d ∷ list_items ds

abbrev pub list : Check (List Data)
list p d = or_else Kind p (option_map list_items (as_array d))

abbrev pub list_of : ℕ → ℕ → Check (List Data)
list_of low high p d = list p d >>= λ ds. where_so (between low high (length ds)) Length p ds

-- ---- names

-- a name that no earlier item has
abbrev pub new_name : (List ℕ → Option ℕ) → Check (List ℕ)
new_name earlier p d = text p d >>= λ s. where_so (not (is_some (earlier s))) Duplicate p s

-- a name that is known, as its number
abbrev pub reference : (List ℕ → Option ℕ) → Check ℕ
reference numbers p d = text p d >>= λ s. or_else Unknown p (numbers s)

-- ---- keys and items

-- the value of a key of an object
abbrev pub under : {A : Type 0} → Place → Data → Key → Check A → Checked A
under p d k check = or_else Missing (at_key k p) (get (key_name k) d) >>= check (at_key k p)

-- the id of an object, which no earlier item has
abbrev pub new_id : (List ℕ → Option ℕ) → Check (List ℕ)
new_id earlier p d = object p d >>= λ o. under p d Id (new_name earlier)

-- each item in turn, which may look at those before it
unfoldable pub each_after : {A : Type 0} → List A → (List A → Check A) → Place → List Data → Checked (List A)
each_after done check p [] = Ok done
each_after done check p (d ∷ ds) = check done (at_item (length done) p) d >>= λ x. each_after
    (done ++ x ∷ []) check p ds

abbrev pub each : {A : Type 0} → (List A → Check A) → Place → List Data → Checked (List A)
each check p ds = each_after [] check p ds

-- the first n items of a list that has at least n
abbrev pub first_items : ℕ → Check (List Data)
first_items n p d = list p d >>= λ ds. where_so (nat_le n (length ds)) Length p (take n ds)

-- a list of at least n numbers, of which the first n count
abbrev pub vector : ℕ → ℕ → Check (List ℕ)
vector n high p d = first_items n p d >>= each (λ _. number 0 high) p

-- items of names: each is read with the numbers of the names before it
abbrev pub each_named : {A : Type 0} → (A → List ℕ) → ((List ℕ → Option ℕ) → Check A) → Place → List Data
    → Checked (List A)
each_named name row p ds = each (λ done. row (number_in (map name done))) p ds

-- a list of low to high such items
abbrev pub named : {A : Type 0} → ℕ → ℕ → (A → List ℕ) → ((List ℕ → Option ℕ) → Check A) → Check (List A)
named low high name row p d = list_of low high p d >>= each_named name row p
