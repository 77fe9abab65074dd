-- Texts piece by piece, as they are written and read.
use Rattle.std.specs.Prelude.{◌≡◌, ℕ, ◌<◌, ◌≤◌, ◌+◌, ◌^◌, nat_lt, List, [], ◌∷◌, length, drop, flat_map, Option, Some, None, if◌then◌else◌, ℤ, pos, neg_ℤ, ◌≤ℤ◌, map, decimal}
use Rattle.ih_tables.specs.declared.drafts.Draft.{Draft}
use Rattle.ih_journal.specs.declared.settings.Options.{Options}
use Rattle.ih_journal.specs.Grammar.{parted, IsRight}
use Rattle.ih_journal.specs.Names.{AreShort}

-- each piece with the separator before it
abbrev pub marked : ℕ → List (List ℕ) → List ℕ
marked c pieces = flat_map (λ (x : List ℕ). c ∷ x) pieces

-- the pieces of what is left, where anything is
abbrev pub left_parted : ℕ → Option (List ℕ) → List (List ℕ)
left_parted c None = []
left_parted c (Some rest) = parted c rest

-- The bytes are parted as a name and numbers of 32 bits: one separator stands behind the name, the other between
-- numbers.
pub record IsCut (behind between : ℕ) (bs name ns : List ℕ) : Type 0 where
  pub rest : List ℕ
  pub cut : parted behind bs ≡ name ∷ parted behind rest
  pub read : parted between rest ≡ map decimal ns
  pub short : AreShort ns

-- a number of a price
abbrev pub IsSmall : ℤ → Type 0
IsSmall z = (neg_ℤ (pos (10 ^ 11)) ≤ℤ z) × (z ≤ℤ pos (10 ^ 11))

-- options of 64 and 32 bits
pub record AreShortOptions (o : Options) : Type 0 where
  pub seed : o.seed < 2 ^ 64
  pub workers : o.workers < 2 ^ 32
  pub moves : o.moves < 2 ^ 32
  pub heat : o.heat < 2 ^ 32
  pub hard : o.hard < 2 ^ 32
  pub retries : o.retries < 2 ^ 32

-- the fields of a line from a byte on: none past the end, where no separator stands before it
abbrev pub fields_from : List ℕ → ℕ → List (List ℕ)
fields_from bytes at = if nat_lt (length bytes) at then [] else parted 32 (drop at bytes)

-- The fields before index i are right, and the next one begins at a byte.
pub record IsRead (I : Draft) (o : Options) (bytes : List ℕ) (i at : ℕ) : Type 0 where
  pub right : (j : ℕ) → j < i → IsRight I o bytes j
  pub left : drop i (parted 32 bytes) ≡ fields_from bytes at
  pub few : i ≤ 8

-- The next field is this one, it is right, and after it one field more is read.
pub record Reads (I : Draft) (o : Options) (bytes : List ℕ) (i at : ℕ) (field : List ℕ) (i' at' : ℕ) : Type 0 where
  pub after : IsRead I o bytes i' at'
  pub index : i' ≡ i + 1
  pub next : fields_from bytes at ≡ field ∷ fields_from bytes at'
