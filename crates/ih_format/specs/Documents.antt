-- A file as one JSON value.
use Rattle.std.specs.Prelude.{ℕ, List, Option, None, if◌then◌else◌}
use Rattle.std.specs.Str.{is_utf8}
use Rattle.serde_json.specs.Data.{Data}
use Rattle.serde_json.specs.Read.{read}
use Rattle.ih_tables.specs.declared.refusals.Fault.TheVariants.{NotJson}
use Rattle.ih_tables.specs.Places.{whole}
use Rattle.ih_format.specs.Checks.{Checked, Check, ◌>>=◌, or_else}

-- the one value in UTF-8 that the bytes are
abbrev pub value_of : List ℕ → Option Data
value_of bytes = if is_utf8 bytes then read bytes else None

-- what a check of the whole value gives
abbrev pub document : {A : Type 0} → Check A → List ℕ → Checked A
document check bytes = or_else NotJson whole (value_of bytes) >>= check whole
