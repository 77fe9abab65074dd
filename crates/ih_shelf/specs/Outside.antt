-- What calls to the outside do: to named files, to text that is put out, and to counts of faults.
use Rattle.std.specs.Prelude.{◌≡◌, ◌≢◌, ℕ, ◌+◌, ◌-◌, ◌^◌, ◌≤◌, ◌⊎◌, min, Bool, is_some, List, [], ◌++◌, take, Option, Some, None, unwrap_or}

-- the bytes of each name, where the name is there
abbrev pub Names : Type 0
Names = List ℕ → Option (List ℕ)

-- what a read of a name gives: a name that isn't there has no bytes
abbrev pub bytes_at : Names → List ℕ → List ℕ
bytes_at names name = unwrap_or (names name) []

-- the name is there
abbrev pub is_there : Names → List ℕ → Bool
is_there names name = is_some (names name)

-- a count after one more, which stands still at the last number of 64 bits
abbrev pub raised : ℕ → ℕ
raised count = min (count + 1) (2 ^ 64 - 1)

-- a count went up, or stands at the last number of 64 bits
abbrev pub Rose : ℕ → ℕ → Type 0
Rose before now = raised before ≤ now

-- where the old state is told, so is the new one, and P holds of both
abbrev pub IfTold : {X : Type 0} → (X → X → Type 0) → Option X → Option X → Type 0
IfTold P None after = Unit {0}
IfTold P (Some old) None = ⊥
IfTold P (Some old) (Some new) = P old new

-- every name but one has what it had
abbrev pub OthersKept : List ℕ → Names → Names → Type 0
OthersKept name old new = (n : List ℕ) → n ≢ name → new n ≡ old n

-- what there was, or a prefix of the bytes
abbrev pub PartOr : List ℕ → Option (List ℕ) → Option (List ℕ) → Type 0
PartOr bytes old new = (new ≡ old) ⊎ ((k : ℕ) × (new ≡ Some (take k bytes)))

-- the name has the bytes
pub record IsWritten (name bytes : List ℕ) (old new : Names) : Type 0 where
  pub whole : new name ≡ Some bytes
  pub others : OthersKept name old new

-- a write of the bytes may have stopped anywhere
pub record MayBeWritten (name bytes : List ℕ) (old new : Names) : Type 0 where
  pub part : PartOr bytes (old name) (new name)
  pub others : OthersKept name old new

-- one put more was counted; the count stands still at the last number of 64 bits
abbrev pub IsOnePut : ℕ → ℕ → Type 0
IsOnePut old new = new ≡ raised old

-- no put more was counted, or one
abbrev pub IsOnePutAtMost : ℕ → ℕ → Type 0
IsOnePutAtMost old new = (new ≡ old) ⊎ IsOnePut old new

-- the bytes were put behind the text
abbrev pub IsAppended : List ℕ → List ℕ → List ℕ → Type 0
IsAppended bytes old new = new ≡ old ++ bytes

-- a put of the bytes may have stopped anywhere
abbrev pub MayBeAppended : List ℕ → List ℕ → List ℕ → Type 0
MayBeAppended bytes old new = (k : ℕ) × (new ≡ old ++ take k bytes)
