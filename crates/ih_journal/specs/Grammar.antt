-- The grammar of a journal's lines: which bytes are the line of an entry, and which field of other bytes is the first
-- wrong one.
use Rattle.std.specs.Prelude.{◌≡◌, ℕ, zero, suc, ◌==◌, ◌+◌, ◌<◌, ◌^◌, ◌⊎◌, List, [], ◌∷◌, ◌++◌, length, Some, slice_get, decimal}
use Rattle.std.specs.List.{slice_split}
use Rattle.ih_tables.specs.declared.drafts.Draft.{Draft}
use Rattle.ih_tables.specs.declared.bills.Bill.{Bill}
use Rattle.ih_tables.specs.Bills.{IsWithin}
use Rattle.ih_plan.specs.declared.moves.Move.{Move}
use Rattle.ih_plan.specs.Expand.{IsMoveOf}
use Rattle.ih_plan.specs.Cells.{IsCellOf}
use Rattle.ih_journal.specs.declared.settings.Options.{Options}
use Rattle.ih_journal.specs.declared.entries.Entry.{Entry}
use Rattle.ih_journal.specs.declared.entries.Verdict.{Verdict}
use Rattle.ih_journal.specs.declared.entries.Verdict.TheVariants.{Stale}
use Rattle.ih_tables.specs.Valid.{IsValid}
use Rattle.ih_journal.specs.Settings.{IsLawful}
use Rattle.ih_journal.specs.Tried.{Tried, tried}
use Rattle.ih_journal.specs.Texts.{move_text, price_text, verdict_text, line_text, journal}

-- the pieces that the bytes have between separators: one more than there are separators
abbrev pub parted : ℕ → List ℕ → List (List ℕ)
parted c bytes = slice_split (λ b. b == c) bytes

-- ---- values that a line may carry

-- nine counts and eight costs, each at most 10^11 in magnitude
pub record IsPrice (b : Bill) : Type 0 where
  pub counts : length b.v ≡ 9
  pub costs : length b.s ≡ 8
  pub small : IsWithin (10 ^ 11) b

-- a stale verdict's cell is one of the instance, and its versions have at most 32 bits
abbrev pub IsVerdictOf : Draft → Verdict → Type 0
IsVerdictOf I (Stale c seen place) = IsCellOf I c × (seen < 2 ^ 32) × (place < 2 ^ 32)
IsVerdictOf I v = Unit {0}

-- Each number of the try has at most 32 bits, without retries nothing is tried again, and what it names is in range: of
-- its moves that is what is asked of them.
pub record IsTriedOf (I : Draft) (o : Options) (Moves : Type 0) (e : Tried) : Type 0 where
  pub worker : e.worker < 2 ^ 32
  pub number : e.number < 2 ^ 32
  pub again : e.again < 2 ^ 32
  pub once : o.retries ≡ 0 → e.again ≡ 0
  pub seen : e.seen < 2 ^ 32
  pub move : Moves
  pub price : IsPrice e.price
  pub verdict : IsVerdictOf I e.verdict

abbrev pub IsEntryOf : Draft → Options → Entry → Type 0
IsEntryOf I o e = IsTriedOf I o (IsMoveOf I e.mv) (tried e)

-- the bytes are the line of entry e at place k, without its line feed
pub record IsLineOf (I : Draft) (o : Options) (k : ℕ) (e : Entry) (bytes : List ℕ) : Type 0 where
  pub place : k < 2 ^ 32
  pub entry : IsEntryOf I o e
  pub text : bytes ≡ line_text o k e

-- A search's options and its history, as a journal may have them: lawful options, and entries in range.
pub record IsHistoryOf (I : Draft) (o : Options) (H : List Entry) : Type 0 where
  pub lawful : IsLawful o
  pub seed : o.seed < 2 ^ 64
  pub places : length H < 2 ^ 32
  pub entries : (k : ℕ) (e : Entry) → slice_get H k ≡ Some e → IsEntryOf I o e

-- Two searches of an instance that differ in their options or in an entry have two journals.
abbrev pub JournalsDiffer : Type 0
JournalsDiffer = (I : Draft) → IsValid I → (o p : Options) (H G : List Entry)
    → IsHistoryOf I o H → IsHistoryOf I p G → journal o H ≡ journal p G
    → (o ≡ p) × (H ≡ G)

-- ---- fields

-- what a field of a line is the text of
pub data FieldKind : Type 0 where
  -- the place, the worker, the number, the try or the entries seen
  count_kind : FieldKind
  move_kind : FieldKind
  price_kind : FieldKind
  verdict_kind : FieldKind

-- the try stands in a line only where moves are tried again
abbrev pub again_kind : ℕ → List FieldKind
again_kind zero = []
again_kind (suc retries) = count_kind ∷ []

-- the fields of a line, in order
abbrev pub kinds : Options → List FieldKind
kinds o = count_kind ∷ count_kind ∷ count_kind
    ∷ again_kind o.retries ++ count_kind ∷ move_kind ∷ price_kind ∷ verdict_kind ∷ []

-- the field is the text of a value of its kind, in range
abbrev pub IsField : Draft → FieldKind → List ℕ → Type 0
IsField I count_kind x = (n : ℕ) × (n < 2 ^ 32) × (x ≡ decimal n)
IsField I move_kind x = (m : Move) × IsMoveOf I m × (x ≡ move_text m)
IsField I price_kind x = (b : Bill) × IsPrice b × (x ≡ price_text b)
IsField I verdict_kind x = (v : Verdict) × IsVerdictOf I v × (x ≡ verdict_text v)

-- The field at index i, from 0, is wanted, it is there, and it is of its kind.
pub record IsRight (I : Draft) (o : Options) (bytes : List ℕ) (i : ℕ) : Type 0 where
  pub kind : FieldKind
  pub field : List ℕ
  pub wanted : slice_get (kinds o) i ≡ Some kind
  pub there : slice_get (parted 32 bytes) i ≡ Some field
  pub fits : IsField I kind field

-- Field f, from 1, is the first that is wanted or there and isn't right: missing, wrong, or one too many.
pub record IsFirstWrong (I : Draft) (o : Options) (bytes : List ℕ) (f : ℕ) : Type 0 where
  pub index : ℕ
  pub number : f ≡ index + 1
  pub before : (i : ℕ) → i < index → IsRight I o bytes i
  pub wrong : IsRight I o bytes index → ⊥
  pub field : (index < length (kinds o)) ⊎ (index < length (parted 32 bytes))
