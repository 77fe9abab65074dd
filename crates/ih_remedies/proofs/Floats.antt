-- A value that is no list, no object and no float has none in it.
use Rattle.std.proofs.Common.{◌≡◌, refl, false, true}
use Rattle.std.specs.Prelude.{is_some, option_map, unwrap_or}
use Rattle.serde_json.specs.Data.{Data, null, boolean, number, string, array, object}
use Rattle.serde_json.specs.Find.{as_array, as_number, as_object, is_float}
use Rattle.serde_json.specs.Written.{has_float}

pub has_no_float : (d : Data) → is_some (as_array d) ≡ false → is_some (as_object d) ≡ false
    → unwrap_or (option_map is_float (as_number d)) false ≡ false → has_float d ≡ false
has_no_float null a o f = refl
has_no_float (boolean b) a o f = refl
has_no_float (number n) a o f = f
has_no_float (string s) a o f = refl
has_no_float (array ds) a o f = absurd (let no : true ≡ false = a in cc)
has_no_float (object ms) a o f = absurd (let no : true ≡ false = o in cc)
