-- What is said of a refused file: a line by which a person can mend it.
use Rattle.std.specs.Prelude.{◌≡◌, ℕ, List, [], ◌∷◌, ◌++◌, codes, Option, Some, None}
use Rattle.serde_json.specs.Data.{Data}
use Rattle.ih_tables.specs.declared.refusals.Refusal.{Refusal}
use Rattle.ih_format.specs.Documents.{value_of}
use Rattle.ih_remedies.specs.Broken.{IsSaidOfBytes}
use Rattle.ih_remedies.specs.Sentences.{sentence}

-- a sentence as a line, and nothing where there is no sentence
unfoldable pub line : List ℕ → List ℕ
line [] = []
line (c ∷ said) = codes "  " ++ ((c ∷ said) ++ codes "\n")

-- what is said of bytes that are no JSON, and of JSON by the fault and its place
abbrev pub IsSaid : List ℕ → Option Data → Refusal → List ℕ → Type 0
IsSaid bytes None refusal said = IsSaidOfBytes bytes said
IsSaid bytes (Some d) refusal said = said ≡ sentence refusal.fault refusal.at d

-- the text says how the file of these bytes, which was refused so, is mended
abbrev pub IsRemedy : List ℕ → Refusal → List ℕ → Type 0
IsRemedy bytes refusal text = (said : List ℕ) × IsSaid bytes (value_of bytes) refusal said × (text ≡ line said)
